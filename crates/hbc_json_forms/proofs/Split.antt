-- UTF-8 texts and escapes: a byte below 0x80 stands by itself, and bytes that need no escape have a text that needs none.
use Prim.Native.Nat.{ℕ, zero, suc, ◌*◌, ◌-◌, ◌≤◌, ◌<◌}
use mathlib.Core.Path.{◌≡◌, refl, sym, ap}
use mathlib.Core.List.{List, [], ◌∷◌, ◌++◌, append_assoc}
use mathlib.Core.Bool.{Bool, true, false, cond, ◌&&◌}
use native.Mathlib.Omega.{arith}
use lib.ListN.{length, take, length-take}
use lib.Dec.{leb, lit≤}
use lib.Seq.{take-append-le}
use borrow.Author.Tests.{leb-true, lt-leb}
use Rattle.hbc_text_forms.specs.Utf8.{Range, ◌‥◌, table, none, more, here, Character, within, leads, pick, row_of, tail, agree}
use Rattle.hbc_text_forms.specs.Utf8.{passed, whole, replacement, written, text_after, utf8_text}
use Rattle.hbc_text_forms.proofs.Laws.{both, text_cons}
use Rattle.hbc_text_forms.proofs.Rows.{passed_inside, reads}
use Rattle.hbc_json_forms.specs.Json.{escaped}
use Rattle.hbc_json_forms.proofs.Laws.{append_length, escaped_length, Clear, clear_escaped, clear_append}
use Rattle.hbc_json_forms.proofs.Laws as clear

-- ---- no part goes over a byte below 0x80

-- the ranges take no such byte
abbrev high : List Range → Bool
high [] = true
high (a ‥ z ∷ rs) = leb 0x80 a && high rs

-- nor do those behind the first of any row
abbrev highs : List (List Range) → Bool
highs [] = true
highs (row ∷ rows) = high (tail row) && highs rows

high_at : (row other : List Range) (w : Bool) → high (tail row) ≡ true → high (tail other) ≡ true → high (tail (cond w row other)) ≡ true
high_at row other true h k = h
high_at row other false h k = k

pick_high : (rows : List (List Range)) (b : ℕ) → highs rows ≡ true → high (tail (pick rows b)) ≡ true
pick_high [] b e = refl
pick_high (row ∷ rows) b e =
    let h = both (high (tail row)) (highs rows) e in
    high_at row (pick rows b) (leads row b) h.0 (pick_high rows b h.1)

row_high : (b : ℕ) → high (tail (row_of b)) ≡ true
unfolding row_of
row_high b = pick_high table b refl

module _ (b : ℕ) (c : List ℕ) (low : b < 0x80) where
  agree_stop : (rs : List Range) (s : List ℕ) → high rs ≡ true → agree rs (s ++ b ∷ c) ≡ agree rs s
  agree_stop [] s e = refl
  agree_stop (a ‥ z ∷ rs) [] e =
      let h : 0x80 ≤ a = leb-true 0x80 a (both (leb 0x80 a) (high rs) e).0 in
      let k : b < a = omega arith in
      rw (lt-leb a b k)
  agree_stop (a ‥ z ∷ rs) (x ∷ s) e =
      ap (λ (n : ℕ). cond (within (a ‥ z) x) (suc n) 0) (agree_stop rs s (both (leb 0x80 a) (high rs) e).1)

  passed_stop : (x : ℕ) (s : List ℕ) → passed x (s ++ b ∷ c) ≡ passed x s
  unfolding passed
  passed_stop x s = agree_stop (tail (row_of x)) s (row_high x)

  written_stop : (x : ℕ) (s : List ℕ) → written x (s ++ b ∷ c) ≡ written x s
  unfolding written whole
  written_stop x s = rw (passed_stop x s, take-append-le (passed x s) s (b ∷ c) (passed_inside x s))

  -- it is a character
  stands : utf8_text (b ∷ c) ≡ b ∷ utf8_text c
  unfolding written
  stands =
      let ch : Character (b ∷ []) = record { row = 0x00 ‥ 0x7F ∷ []; listed = here; fit = more {a = 0} {z = 0x7F} {b = b} (omega arith) (omega arith) none } in
      let r = reads c ch in
      rw (text_cons b c, r.is_whole, r.passes)

  after_stop : (k : ℕ) (a : List ℕ) → k ≤ length a → text_after k (a ++ b ∷ c) ≡ text_after k a ++ b ∷ utf8_text c
  unfolding text_after utf8_text
  after_stop zero [] h = stands
  after_stop (suc k) [] h = absurd (omega arith)
  after_stop zero (x ∷ a) h =
      rw (passed_stop x a, written_stop x a, after_stop (passed x a) a (passed_inside x a))
      (sym (append_assoc (written x a) (text_after (passed x a) a) (b ∷ utf8_text c)))
  after_stop (suc k) (x ∷ a) h = after_stop k a (omega arith)

pub utf8_split : (a c : List ℕ) (b : ℕ) → b < 0x80 → utf8_text (a ++ b ∷ c) ≡ utf8_text a ++ b ∷ utf8_text c
unfolding utf8_text
utf8_split a c b low = after_stop b c low 0 a (omega arith)

-- ---- each byte of a text is one of the bytes, or of U+FFFD

replacement_clear : Clear replacement
replacement_clear = clear.more refl (clear.more refl (clear.more refl clear.none))

take_clear : (n : ℕ) {s : List ℕ} → Clear s → Clear (take n s)
take_clear zero h = clear.none
take_clear (suc n) clear.none = clear.none
take_clear (suc n) (clear.more e h) = clear.more e (take_clear n h)

part_clear : (w : Bool) {s : List ℕ} → Clear s → Clear (cond w s replacement)
part_clear true h = h
part_clear false h = replacement_clear

after_clear : (k : ℕ) {s : List ℕ} → Clear s → Clear (text_after k s)
unfolding text_after written
after_clear zero clear.none = clear.none
after_clear (suc k) clear.none = clear.none
after_clear zero (clear.more {b} {s} e h) =
    clear_append (part_clear (whole b s) (clear.more e (take_clear (passed b s) h))) (after_clear (passed b s) h)
after_clear (suc k) (clear.more e h) = after_clear k h

pub utf8_clear : {a : List ℕ} → Clear a → escaped (utf8_text a) ≡ utf8_text a
unfolding utf8_text
utf8_clear h = clear_escaped (after_clear 0 h)

-- ---- six bytes for each byte

part_room : (b : ℕ) (s : List ℕ) (w : Bool) → length (escaped (cond w (b ∷ take (passed b s) s) replacement)) ≤ 6 * suc (passed b s)
part_room b s true = omega (arith, escaped_length (b ∷ take (passed b s) s), length-take (passed b s) s)
part_room b s false = rw (clear_escaped replacement_clear) (omega arith)

part_most : (b : ℕ) (s : List ℕ) → length (escaped (written b s)) ≤ 6 * suc (passed b s)
unfolding written
part_most b s = part_room b s (whole b s)

after_most : (k : ℕ) (s : List ℕ) → length (escaped (text_after k s)) ≤ 6 * (length s - k)
unfolding text_after escaped
after_most zero [] = lit≤ tt
after_most (suc k) [] = omega arith
after_most zero (b ∷ s) =
    omega (arith, append_length (written b s) (text_after (passed b s) s), part_most b s, passed_inside b s, after_most (passed b s) s)
after_most (suc k) (b ∷ s) = omega (arith, after_most k s)

pub utf8_most : (s : List ℕ) → length (escaped (utf8_text s)) ≤ 6 * length s
unfolding utf8_text
utf8_most s = omega (arith, after_most 0 s)
