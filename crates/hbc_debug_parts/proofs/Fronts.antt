-- The laws of Lists: its tests, and words put in front of a table.
use Prim.Native.Nat.{ℕ, ◌+◌, ◌-◌, ◌≤◌, ◌<◌}
use mathlib.Core.Path.{◌≡◌, ap, sym, ◌∙◌}
use mathlib.Core.List.{List, ◌++◌, append-nil}
use native.Mathlib.Omega.{arith}
use lib.ListN.{length, take, drop, drop_of_length-le}
use lib.Seq.{sets, sets-eq, length-take-le}
use borrow.Rule.Slice.PartMut.{put_mid}
use borrow.Author.Tests.{le-ltb, lt-ltb}
use Rattle.hbc_io.specs.Outcome.{limit}
use Rattle.hbc_io.specs.Answer.{Answer, refused_at}
use Rattle.hbc_io.specs.Lends.{below}
use Rattle.hbc_debug_parts.specs.Lists.{in_limit, with_room, in_front}

module _ {A : Type 0} (a : Answer A) where
  pub limit_past : (end : ℕ) → limit < end → refused_at 1 0 ≡ in_limit end a
  unfolding below
  limit_past end h = sym (rw (lt-ltb limit end h))

  pub limit_in : (end : ℕ) → end ≤ limit → a ≡ in_limit end a
  unfolding below
  limit_in end h = sym (rw (le-ltb limit end h))

  pub room_in : (lent count : ℕ) → count ≤ lent → a ≡ with_room lent count a
  unfolding below
  room_in lent count h = sym (rw (le-ltb lent count h))

-- what a call that is lent the first n words of a table leaves of it
pub front_put : (n : ℕ) (t words : List ℕ) {row : List ℕ} → row ≡ sets (take (n - 0) (drop 0 t)) 0 words → put_mid 0 (n - 0) t row ≡ in_front n words t
unfolding in_front
front_put n t words e = let z : n - 0 ≡ n = omega arith in rw (e, z)

-- as many words as there are rows for: all of them, and no other word
pub front_all : (n : ℕ) (t words : List ℕ) → length words ≡ n → n ≤ length t → in_front n words t ≡ sets t 0 words
unfolding in_front
front_all n t words e h =
    let l : length (take n t) ≡ n = length-take-le n t h in
    let k : length (take n t) ≤ 0 + length words = omega arith in
    let a : sets (take n t) 0 words ≡ words
    = sets-eq words (take n t) 0 (omega arith) ∙ ap (λ (u : List ℕ). words ++ u) (drop_of_length-le (take n t) k) ∙ append-nil words in
    let b : 0 + length words ≡ n = omega arith in
    let c : sets t 0 words ≡ words ++ drop n t = sets-eq words t 0 (omega arith) ∙ ap (λ (m : ℕ). words ++ drop m t) b in
    ap (λ (u : List ℕ). u ++ drop n t) a ∙ sym c
