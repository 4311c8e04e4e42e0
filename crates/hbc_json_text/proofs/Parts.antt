-- An escape and a piece of text, written from a place on.
use Prim.Native.Nat.{ℕ, suc, ◌+◌, ◌-◌, ◌/◌, ◌%◌, ◌≤◌, ◌<◌}
use mathlib.Core.Path.{◌≡◌, refl, sym, ap, ◌∙◌}
use mathlib.Core.List.{List, [], ◌∷◌, ◌++◌, append_assoc, append-nil}
use mathlib.Core.Bool.{Bool, true, false}
use native.Mathlib.Omega.{arith}
use lib.ListN.{length, take, drop, set, length-take, length-drop}
use lib.Seq.{sets, sets-eq, drop-drop, take-length, drop-length}
use borrow.Author.Tests.{lt-ltb, le-ltb}
use borrow.Rule.Slice.PartMut.{put_mid}
use Rattle.std.specs.Prelude.{Result, Ok, Err}
use Rattle.std.specs.Result.{result_unwrap_or}
use Rattle.hbc_io.specs.Outcome.{limit}
use Rattle.hbc_io.specs.Answer.{gives}
use Rattle.hbc_io.specs.declared.Refusal.{Refusal}
use Rattle.hbc_io.proofs.Exits.{not_given}
use Rattle.hbc_io.specs.Answers.{answered}
use Rattle.hbc_text_forms.specs.Text.{text_answer, put_answer, over, PutText}
use Rattle.hbc_text_forms.specs.Scalars.{encode_all}
use Rattle.hbc_text_forms.specs.Utf16.{units, scalars, utf16_text}
use Rattle.hbc_text_forms.proofs.Laws.{text_nil}
use Rattle.hbc_text_forms.proofs.Exits.{room_for, has_length, of_bytes}
use Rattle.hbc_json_forms.specs.Json.{hex_digit, is_quote, escape, text_in}
use Rattle.hbc_json_text.specs.Private.{piece}

-- ---- an escape

module _ (b : ℕ) {w : Bool} (q : w ≡ is_quote b) where
  pub quote_escape : w ≡ true → escape b ≡ 0x5C ∷ b ∷ []
  unfolding escape
  quote_escape h = rw (sym q ∙ h)

  pub quote_size : w ≡ true → length (escape b) ≡ 2
  quote_size h = ap length (quote_escape h)

  pub control_escape : w ≡ false → b < 0x20 → escape b ≡ 0x5C ∷ 0x75 ∷ 0x30 ∷ 0x30 ∷ hex_digit (b / 16) ∷ hex_digit (b % 16) ∷ []
  unfolding escape
  control_escape h l = rw (sym q ∙ h, lt-ltb b 0x20 l)

  pub control_size : w ≡ false → b < 0x20 → length (escape b) ≡ 6
  control_size h l = ap length (control_escape h l)

  pub plain_escape : w ≡ false → 0x20 ≤ b → escape b ≡ b ∷ []
  unfolding escape
  plain_escape h l = rw (sym q ∙ h, le-ltb b 0x20 l)

  pub plain_size : w ≡ false → 0x20 ≤ b → length (escape b) ≡ 1
  plain_size h l = ap length (plain_escape h l)

pub two_set : (d : List ℕ) (at x y : ℕ) → set (set d at x) (at + 1) y ≡ sets d at (x ∷ y ∷ [])
two_set d at x y = let e : at + 1 ≡ suc at = omega arith in rw e

pub six_set : (d : List ℕ) (at u v w x y z : ℕ)
    → set (set (set (set (set (set d at u) (at + 1) v) (at + 2) w) (at + 3) x) (at + 4) y) (at + 5) z ≡ sets d at (u ∷ v ∷ w ∷ x ∷ y ∷ z ∷ [])
six_set d at u v w x y z =
    let e1 : at + 1 ≡ suc at = omega arith in
    let e2 : at + 2 ≡ suc (suc at) = omega arith in
    let e3 : at + 3 ≡ suc (suc (suc at)) = omega arith in
    let e4 : at + 4 ≡ suc (suc (suc (suc at))) = omega arith in
    let e5 : at + 5 ≡ suc (suc (suc (suc (suc at)))) = omega arith in
    rw (e1, e2, e3, e4, e5)

-- ---- a piece: what is lent is the part of d from n on

module _ (text b d : List ℕ) (n : ℕ) (few : length b ≤ limit) (room : n + length text ≤ length d) where
  behind : take (length d - n) (drop n d) ≡ drop n d
  behind = let e : length d - n ≡ length (drop n d) = sym (length-drop n d) in rw e (take-length (drop n d))

  lent_room : length text ≤ length (take (length d - n) (drop n d))
  lent_room = rw (behind, length-drop n d) (omega arith)

  lent_answer : gives (length text) ≡ put_answer text b (length (take (length d - n) (drop n d)))
  lent_answer = of_bytes text (length (take (length d - n) (drop n d))) b few (room_for text (length (take (length d - n) (drop n d))) lent_room)

  piece_length : {r : Result ℕ Refusal} {after : List ℕ} (k : ℕ) → PutText text b (take (length d - n) (drop n d)) r after → r ≡ Ok k → k ≡ length text
  piece_length k v q = same (sym (ap answered q) ∙ v.says ∙ sym lent_answer)
    where
      same : gives k ≡ gives (length text) → k ≡ length text
      same e = cc

  piece_put : {r : Result ℕ Refusal} {after : List ℕ} (k : ℕ) → PutText text b (take (length d - n) (drop n d)) r after → r ≡ Ok k
      → put_mid n (length d - n) d after ≡ sets d n text
  unfolding over
  piece_put {r = Ok m} {after} k v q =
      let e : length d - n ≡ length (drop n d) = sym (length-drop n d) in
      let a : after ≡ text ++ drop (length text) (drop n d) = v.leaves ∙ rw behind in
      let z : drop (length d - n) (drop n d) ≡ [] = rw e (drop-length (drop n d)) in
      rw (z, append-nil after) (ap (λ (x : List ℕ). take n d ++ x) (a ∙ rw (drop-drop (length text) n d)) ∙ sym (append_assoc (take n d) text (drop (n + length text) d)) ∙ sym (sets-eq text d n room))
  piece_put {r = Err x} k v q = absurd (not_given (ap answered q))

  piece_refused : {r : Result ℕ Refusal} {after : List ℕ} {x : Refusal} → PutText text b (take (length d - n) (drop n d)) r after → r ≡ Err x → ⊥
  piece_refused v q = not_given (sym (ap answered q) ∙ v.says ∙ sym lent_answer)

  pub piece_given : {r : Result ℕ Refusal} {after : List ℕ} → PutText text b (take (length d - n) (drop n d)) r after
      → (result_unwrap_or r 0 ≡ length text) × (put_mid n (length d - n) d after ≡ sets d n text)
  piece_given {r = Ok k} v = (piece_length k v refl, piece_put k v refl)
  piece_given {r = Err x} v = absurd (piece_refused v refl)

-- ---- the piece of a string

part_few : (s : List ℕ) (at e : ℕ) → length s ≤ limit → length (take (e - at) (drop at s)) ≤ limit
part_few s at e l = omega (arith, length-take (e - at) (drop at s), length-drop at s)

module _ (wide : Bool) (s : List ℕ) (at e : ℕ) (l : length s ≤ limit) where
  module _ (d : List ℕ) (n : ℕ) (room : n + length (piece wide s at e) ≤ length d) {r : Result ℕ Refusal} {after : List ℕ}
      (v : PutText (text_in wide (take (e - at) (drop at s))) (take (e - at) (drop at s)) (take (length d - n) (drop n d)) r after) where
    pub is_piece : (result_unwrap_or r 0 ≡ length (piece wide s at e)) × (put_mid n (length d - n) d after ≡ sets d n (piece wide s at e))
    unfolding piece
    is_piece = piece_given (text_in wide (take (e - at) (drop at s))) (take (e - at) (drop at s)) d n (part_few s at e l) room v

  -- measured
  module _ (room : ℕ) (r : Result ℕ Refusal) (v : answered r ≡ put_answer (text_in wide (take (e - at) (drop at s))) (take (e - at) (drop at s)) room) where
    pub says_piece : answered r ≡ text_answer (piece wide s at e) room
    unfolding piece
    says_piece = v ∙ sym (of_bytes (text_in wide (take (e - at) (drop at s))) room (take (e - at) (drop at s)) (part_few s at e l) refl)

-- an empty piece
none_in : (wide : Bool) → text_in wide [] ≡ []
unfolding utf16_text units scalars encode_all
none_in true = refl
none_in false = text_nil

pub empty_piece : (wide : Bool) (s d : List ℕ) (at e n : ℕ) → at ≡ e → (◌≡◌ {A = ℕ} 0 (length (piece wide s at e))) × (d ≡ sets d n (piece wide s at e))
unfolding piece
empty_piece wide s d at e n h =
    let z : e - at ≡ 0 = omega arith in
    rw (z, none_in wide) (refl, refl)

none_at : (wide : Bool) (s : List ℕ) → length s ≡ 0 → text_in wide s ≡ []
none_at wide [] e = none_in wide
none_at wide (b ∷ s) e = absurd (omega arith)

pub empty_length : (wide : Bool) (s : List ℕ) (room : ℕ) → length s ≡ 0 → answered (Ok 0) ≡ put_answer (text_in wide s) s room
empty_length wide s room e = of_bytes (text_in wide s) room s (omega arith) (rw (none_at wide s e) (has_length [] room refl (omega arith)))
