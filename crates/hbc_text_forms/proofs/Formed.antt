-- What is true of the UTF-8 text: it is well formed, and well-formed bytes are their own text.
use Prim.Native.Nat.{ℕ, zero, suc}
use mathlib.Core.Path.{◌≡◌, refl, sym}
use mathlib.Core.List.{List, [], ◌∷◌, ◌++◌}
use mathlib.Core.Bool.{Bool, true, false, cond}
use native.Mathlib.Omega.{arith}
use lib.ListN.{length, take}
use lib.Dec.{lit≤}
use lib.Seq.{take-append_seam, drop-append_seam}
use borrow.Author.Tests.{eqb-true}
use Rattle.hbc_text_forms.specs.Utf8.{Range, ◌‥◌, table, Fits, none, more, here, there, Character, WellFormed, end, then, leads, row_of, tail, agree, passed, whole, replacement, written, text_after, utf8_text}
use Rattle.hbc_text_forms.proofs.Laws.{inside, no, text_nil, text_cons}
use Rattle.hbc_text_forms.proofs.Rows.{agreed, picked, filled, reads}

fits_at : (row : List Range) (b : ℕ) (s : List ℕ) → leads row b ≡ true → suc (agree (tail row) s) ≡ length row → Fits row (b ∷ take (agree (tail row) s) s)
fits_at [] b s l e = no l
fits_at (a ‥ z ∷ rs) b s l e =
    let i = inside a z b l in
    let n : agree rs s ≡ length rs = omega arith in
    rw n (more i.0 i.1 (agreed rs s n))

-- a part that is whole is a character
pub character : (b : ℕ) (s : List ℕ) → whole b s ≡ true → Character (b ∷ take (passed b s) s)
unfolding whole passed row_of
character b s w =
    let e : suc (agree (tail (row_of b)) s) ≡ length (row_of b) = eqb-true _ _ w in
    let p = picked table b (agree (tail (row_of b)) s) (sym e) in
    record { row = row_of b; listed = p.0; fit = fits_at (row_of b) b s p.1 e }

pub replaced : Character replacement
replaced = record {
  row = 0xEE ‥ 0xEF ∷ 0x80 ‥ 0xBF ∷ 0x80 ‥ 0xBF ∷ [];
  listed = there (there (there (there (there here))));
  fit = more (lit≤ tt) (lit≤ tt) (more (lit≤ tt) (lit≤ tt) (more (lit≤ tt) (lit≤ tt) none));
}

part : (b : ℕ) (s : List ℕ) (w : Bool) → whole b s ≡ w → Character (cond w (b ∷ take (passed b s) s) replacement)
part b s true e = character b s e
part b s false e = replaced

formed_after : (k : ℕ) (s : List ℕ) → WellFormed (text_after k s)
unfolding text_after written
formed_after zero [] = end
formed_after (suc k) [] = end
formed_after zero (b ∷ s) = then (part b s (whole b s) refl) (formed_after (passed b s) s)
formed_after (suc k) (b ∷ s) = formed_after k s

-- the text of any bytes is well formed
pub formed : (s : List ℕ) → WellFormed (utf8_text s)
unfolding utf8_text
formed s = formed_after 0 s

-- well-formed bytes come out unchanged
pub unchanged : {s : List ℕ} → WellFormed s → utf8_text s ≡ s
unfolding written
unchanged end = text_nil
unchanged (then {c = []} ch w) = absurd (filled ch)
unchanged (then {c = b ∷ c} {s} ch w) =
    let r = reads s ch in
    rw (text_cons b (c ++ s), r.is_whole, r.passes, take-append_seam c s, drop-append_seam c s, unchanged w)

-- so the text of a text is that text
pub twice : (s : List ℕ) → utf8_text (utf8_text s) ≡ utf8_text s
twice s = unchanged (formed s)
