-- The text is what the one cut of its bytes gives, and the U+FFFD in it are counted by that cut.
use Prim.Native.Nat.{ℕ, zero, suc, ◌+◌}
use mathlib.Core.Path.{◌≡◌, refl, sym, ap}
use mathlib.Core.List.{List, [], ◌∷◌, ◌++◌}
use mathlib.Core.Bool.{Bool, true, false, cond}
use native.Mathlib.Omega.{arith}
use lib.ListN.{length, take, drop, take-append-drop}
use lib.Seq.{length-take-le, take-append_seam, drop-append_seam}
use Rattle.hbc_text_forms.specs.Utf8.{Character, WellFormed, end, then, passed, whole, replacement, written, text_after, utf8_text}
use Rattle.hbc_text_forms.specs.Parts.{Maximal, own, Cut, nothing, character, part}
use Rattle.hbc_text_forms.proofs.Laws.{text_nil, text_cons}
use Rattle.hbc_text_forms.proofs.Rows.{filled, reads, passed_inside}
use Rattle.hbc_text_forms.proofs.Formed as formed
use Rattle.hbc_text_forms.proofs.Parts.{maximal, one_maximal}

-- ---- parts counted along the text

-- what each part counts, added up over the parts after the first k bytes
unfoldable pub sum_after : (ℕ → List ℕ → ℕ) → ℕ → List ℕ → ℕ
sum_after f k [] = 0
sum_after f zero (b ∷ s) = f b s + sum_after f (passed b s) s
sum_after f (suc k) (b ∷ s) = sum_after f k s

unfoldable pub sum : (ℕ → List ℕ → ℕ) → List ℕ → ℕ
sum f s = sum_after f 0 s

sum_after_lem : (f : ℕ → List ℕ → ℕ) (k : ℕ) (s : List ℕ) → sum_after f k s ≡ sum f (drop k s)
unfolding sum_after sum
sum_after_lem f zero s = refl
sum_after_lem f (suc k) [] = refl
sum_after_lem f (suc k) (b ∷ s) = sum_after_lem f k s

sum_nil : (f : ℕ → List ℕ → ℕ) → sum f [] ≡ 0
unfolding sum_after sum
sum_nil f = refl

sum_cons : (f : ℕ → List ℕ → ℕ) (b : ℕ) (s : List ℕ) → sum f (b ∷ s) ≡ f b s + sum f (drop (passed b s) s)
unfolding sum_after sum
sum_cons f b s = ap (λ (n : ℕ). f b s + n) (sum_after_lem f (passed b s) s)

-- a character that is U+FFFD, and a part that is no character
unfoldable pub own_at : ℕ → List ℕ → ℕ
own_at b s = cond (whole b s) (own (b ∷ take (passed b s) s)) 0

unfoldable pub ill_at : ℕ → List ℕ → ℕ
ill_at b s = cond (whole b s) 0 1

abbrev pub kept_of : List ℕ → ℕ
kept_of s = sum own_at s

abbrev pub ill_of : List ℕ → ℕ
ill_of s = sum ill_at s

-- ---- one part

pub record Parted (b : ℕ) (c s : List ℕ) (k n : ℕ) (w : List ℕ) : Type 0 where
  pub text : utf8_text (b ∷ c ++ s) ≡ w ++ utf8_text s
  pub kept : kept_of (b ∷ c ++ s) ≡ k + kept_of s
  pub ill : ill_of (b ∷ c ++ s) ≡ n + ill_of s

whole_parted : (b : ℕ) (c s : List ℕ) → whole b (c ++ s) ≡ true → passed b (c ++ s) ≡ length c → Parted b c s (own (b ∷ c)) 0 (b ∷ c)
unfolding written own_at ill_at
whole_parted b c s w e =
    record {
      text = rw (text_cons b (c ++ s), w, e, take-append_seam c s, drop-append_seam c s);
      kept = rw (sum_cons own_at b (c ++ s), w, e, take-append_seam c s, drop-append_seam c s);
      ill = rw (sum_cons ill_at b (c ++ s), w, e, drop-append_seam c s);
    }

ill_parted : (b : ℕ) (c s : List ℕ) → whole b (c ++ s) ≡ false → passed b (c ++ s) ≡ length c → Parted b c s 0 1 replacement
unfolding written own_at ill_at
ill_parted b c s w e =
    record {
      text = rw (text_cons b (c ++ s), w, e, drop-append_seam c s);
      kept = rw (sum_cons own_at b (c ++ s), w, e, drop-append_seam c s);
      ill = rw (sum_cons ill_at b (c ++ s), w, e, drop-append_seam c s);
    }

character_parted : (b : ℕ) (c s : List ℕ) → Character (b ∷ c) → Parted b c s (own (b ∷ c)) 0 (b ∷ c)
character_parted b c s ch = let r = reads s ch in whole_parted b c s r.is_whole r.passes

not_whole : (b : ℕ) (s : List ℕ) (n : ℕ) → Maximal (b ∷ s) n → (w : Bool) → whole b s ≡ w → whole b s ≡ false
not_whole b s n m true e = absurd (m.ill (suc (passed b s)) (formed.character b s e))
not_whole b s n m false e = e

maximal_parted : (b : ℕ) (c s : List ℕ) → Maximal (b ∷ c ++ s) (suc (length c)) → Parted b c s 0 1 replacement
maximal_parted b c s m =
    let w = not_whole b (c ++ s) (suc (length c)) m (whole b (c ++ s)) refl in
    let e : suc (passed b (c ++ s)) ≡ suc (length c) = one_maximal (maximal b (c ++ s) w) m in
    ill_parted b c s w (omega arith)

-- ---- any cut is the one

pub record Is (s : List ℕ) (k n : ℕ) (t : List ℕ) : Type 0 where
  pub kept : k ≡ kept_of s
  pub ill : n ≡ ill_of s
  pub text : t ≡ utf8_text s

pub only : {s t : List ℕ} {k n : ℕ} → Cut s k n t → Is s k n t
only nothing = record { kept = sym (sum_nil own_at); ill = sym (sum_nil ill_at); text = sym text_nil }
only (character {c = []} ch q) = absurd (filled ch)
only (character {c = b ∷ c} {s} ch q) =
    let i = only q in
    let p = character_parted b c s ch in
    record { kept = rw (p.kept, i.kept); ill = omega (arith, i.ill, p.ill); text = rw (p.text, i.text) }
only (part [] m q) = absurd (omega (arith, m.some))
only (part (b ∷ c) {s} m q) =
    let i = only q in
    let p = maximal_parted b c s m in
    record { kept = omega (arith, i.kept, p.kept); ill = omega (arith, p.ill, i.ill); text = rw (p.text, i.text) }

-- ---- there is one

cut_at : (b : ℕ) (s t : List ℕ) (k n : ℕ) (w : Bool) → whole b s ≡ w → Cut (drop (passed b s) s) k n t
    → Cut (b ∷ s) (cond w (own (b ∷ take (passed b s) s)) 0 + k) (cond w 0 1 + n) (cond w (b ∷ take (passed b s) s) replacement ++ t)
cut_at b s t k n true e q =
    let c : Cut (b ∷ take (passed b s) s ++ drop (passed b s) s) (own (b ∷ take (passed b s) s) + k) n (b ∷ take (passed b s) s ++ t) = character (formed.character b s e) q in
    let z : 0 + n ≡ n = omega arith in
    rw z (rw (take-append-drop (passed b s) s) at c)
cut_at b s t k n false e q =
    let l : length (take (passed b s) s) ≡ passed b s = length-take-le (passed b s) s (passed_inside b s) in
    let m : Maximal (b ∷ take (passed b s) s ++ drop (passed b s) s) (suc (length (take (passed b s) s))) = rw (l, take-append-drop (passed b s) s) (maximal b s e) in
    let c : Cut (b ∷ take (passed b s) s ++ drop (passed b s) s) k (suc n) (replacement ++ t) = part (b ∷ take (passed b s) s) m q in
    let z : 0 + k ≡ k = omega arith in
    let y : 1 + n ≡ suc n = omega arith in
    rw (z, y) (rw (take-append-drop (passed b s) s) at c)

cut_after : (k : ℕ) (s : List ℕ) → Cut (drop k s) (sum_after own_at k s) (sum_after ill_at k s) (text_after k s)
unfolding sum_after text_after written own_at ill_at
cut_after zero [] = nothing
cut_after (suc k) [] = nothing
cut_after zero (b ∷ s) = cut_at b s (text_after (passed b s) s) _ _ (whole b s) refl (cut_after (passed b s) s)
cut_after (suc k) (b ∷ s) = cut_after k s

pub cut : (s : List ℕ) → Cut s (kept_of s) (ill_of s) (utf8_text s)
unfolding sum utf8_text
cut s = cut_after 0 s

-- ---- the text is cut into characters alone, and so many of them are U+FFFD

own_replacement : own replacement ≡ 1
unfolding own
own_replacement = refl

pub text_cut : {s t : List ℕ} {k n : ℕ} → Cut s k n t → Cut t (k + n) 0 t
text_cut nothing = nothing
text_cut (character {c} {k} {n} ch q) =
    let e : own c + k + n ≡ own c + (k + n) = omega arith in
    rw e (character ch (text_cut q))
text_cut (part p {k} {n} m q) =
    let e : k + suc n ≡ own replacement + (k + n) = omega (arith, own_replacement) in
    rw e (character formed.replaced (text_cut q))

-- ---- bytes without an ill-formed part are well formed

pub none_ill : {s t : List ℕ} {k n : ℕ} → Cut s k n t → n ≡ 0 → WellFormed s
none_ill nothing z = end
none_ill (character ch q) z = then ch (none_ill q z)
none_ill (part p m q) z = absurd (omega arith)
