-- How far a LEB128 read goes.
use mathlib.Core.Path.{◌≡◌, refl, ap}
use mathlib.Core.Bool.{Bool, true, false, cond}
use mathlib.Core.List.{List}
use Prim.Native.Nat.{ℕ, suc, ◌+◌, ◌≤◌}
use native.Mathlib.Omega.{arith}
use borrow.Author.Tests.{leb-true}
use lib.Dec.{leb, ltb}
use lib.ListN.{length, drop, take, length-drop}
use Rattle.hbc_io.specs.Outcome.{got, refused, limit, cursor_at, refusal}
use Rattle.hbc_io.specs.declared.Cursor.{Cursor}
use Rattle.hbc_io.specs.declared.Refusal.{Refusal}
use Rattle.hbc_io.proofs.Reading.{valued_got, valued_refused}
use Rattle.hbc_io.proofs.Moves.{Moves}
use Rattle.hbc_io_leb.specs.Leb.{leb_bytes, going}
use Rattle.hbc_io_leb.specs.Answers.{sleb_of}
use Rattle.hbc_io_leb.specs.Signed.{sleb_at}
use Rattle.hbc_io_leb.proofs.Lebs.{leb_got, going_le}

left_lemma : (m at k : ℕ) (x : List ℕ) (o : Cursor) (c : Cursor) (r : Refusal) (n : Cursor) (p q u v : Bool) → c.at ≡ at → at ≤ m → at + k ≤ m → ltb m at ≡ q → leb 10 k ≡ u
    → cond p (refused (refusal 1) c) (cond q (refused (refusal 2) c) (cond u (refused (refusal 5) (cursor_at (at + 10))) (cond v (refused (refusal 3) (cursor_at m)) (got x o)))) ≡ refused r n
    → (at ≤ n.at) × (n.at ≤ m)
left_lemma m at k x o c r n true q u v d h l a b e = let z : c ≡ n = cc in let y = ap (λ (t : Cursor). t.at) z in (omega arith, omega arith)
left_lemma m at k x o c r n false true u v d h l a b e = let z : c ≡ n = cc in let y = ap (λ (t : Cursor). t.at) z in (omega arith, omega arith)
left_lemma m at k x o c r n false false true v d h l a b e =
    let z : cursor_at (at + 10) ≡ n = cc in let y : at + 10 ≡ n.at = ap (λ (t : Cursor). t.at) z in let w = leb-true 10 k b in (omega arith, omega arith)
left_lemma m at k x o c r n false false false true d h l a b e =
    let z : cursor_at m ≡ n = cc in let y : m ≡ n.at = ap (λ (t : Cursor). t.at) z in (omega arith, omega arith)
left_lemma m at k x o c r n false false false false d h l a b e = let z : ◌≡◌ {A = ℕ} 0 1 = cc in absurd (omega arith)

leb_left_lem : (s : List ℕ) (c : Cursor) (r : Refusal) (n : Cursor) → c.at ≤ length s → leb_bytes s c ≡ refused r n → (c.at ≤ n.at) × (n.at ≤ length s)
unfolding leb_bytes
leb_left_lem s c r n h e =
    let l = going_le (drop c.at s) in
    let d = length-drop c.at s in
    left_lemma (length s) c.at (going (drop c.at s))
    (take (suc (going (drop c.at s))) (drop c.at s)) (cursor_at (c.at + suc (going (drop c.at s)))) c r n
    (ltb limit (length s)) (ltb (length s) c.at) (leb 10 (going (drop c.at s))) (leb (length s) (c.at + going (drop c.at s))) refl h (omega arith) refl refl e

pub sleb_moves : (s : List ℕ) → Moves (length s) (sleb_at s)
unfolding sleb_at
sleb_moves s = record {
  on = λ c v n e.
      let w = valued_got sleb_of (leb_bytes s c) v n e in
      let k = leb_got s c w.0 n w.1 in
      let y : n.at ≡ c.at + length w.0 = ap (λ (d : Cursor). d.at) k.next in
      (omega (arith, k.some), omega (arith, k.room));
  off = λ c r n h e. leb_left_lem s c r n h (valued_refused sleb_of (leb_bytes s c) r n e);
}
