-- The text of bytes in UTF-16 little-endian.
use Prim.Native.Nat.{ℕ, ◌+◌, ◌<◌}
use mathlib.Core.Path.{◌≡◌, refl, sym, ◌∙◌}
use mathlib.Core.Logic.{inl, inr}
use mathlib.Core.List.{List, [], ◌∷◌}
use mathlib.Core.Bool.{Bool, true, false, cond}
use native.Mathlib.Omega.{arith}
use lib.ListN.{get_or}
use lib.Dec.{eqb}
use borrow.Author.Tests.{eqb-true, eqb-false, ne_eqb}
use Rattle.hbc_text_forms.specs.Utf8.{replacement}
use Rattle.hbc_text_forms.specs.Parts.{same, own, Cut, nothing, character}
use Rattle.hbc_text_forms.specs.Scalars.{Scalars, none, more, encode, encode_all}
use Rattle.hbc_text_forms.specs.Utf16.{units, pair_of, scalars, Surrogate, Paired}
use Rattle.hbc_text_forms.specs.Utf16 as utf16
use Rattle.hbc_text_forms.proofs.Laws.{both, no}
use Rattle.hbc_text_forms.proofs.Codes.{encoded, one_code}
use Rattle.hbc_text_forms.proofs.Wide as wide
use Rattle.hbc_text_forms.proofs.Pairs as pairs
use Rattle.hbc_text_forms.proofs.Bounds as bounds
use Rattle.hbc_claims_text.specs.Utf16.{replacements, OnePairing, OfUtf16, OfScalars}

one_pairing : (us : List ℕ) → OnePairing us (scalars us)
one_pairing us =
    record { lone = pairs.lones us; is = pairs.paired us; one_lone = λ n ds p. (pairs.only p).count; one_values = λ n ds p. (pairs.only p).values }

-- ---- the U+FFFD of a text are those of its values

same_so : (s t : List ℕ) → same s t ≡ true → s ≡ t
same_so [] [] e = refl
same_so [] (b ∷ t) e = no e
same_so (a ∷ s) [] e = no e
same_so (a ∷ s) (b ∷ t) e =
    let x = both (eqb a b) (same s t) e in
    let p : a ≡ b = eqb-true a b x.0 in
    let q : s ≡ t = same_so s t x.1 in
    rw (p, q)

encode_replacement : encode 0xFFFD ≡ replacement
unfolding encode
encode_replacement = refl

same_encode : (c : ℕ) (w v : Bool) → eqb c 0xFFFD ≡ w → same (encode c) replacement ≡ v → v ≡ w
same_encode c true v e f = let z : c ≡ 0xFFFD = eqb-true c 0xFFFD e in sym f ∙ rw (z, encode_replacement)
same_encode c false true e f = absurd (eqb-false c 0xFFFD e (one_code c 0xFFFD (same_so (encode c) replacement f ∙ sym encode_replacement)))
same_encode c false false e f = refl

own_encode : (c : ℕ) → own (encode c) ≡ cond (eqb c 0xFFFD) 1 0
unfolding own
own_encode c = rw (same_encode c (eqb c 0xFFFD) (same (encode c) replacement) refl refl)

encodings_cut : {cs : List ℕ} → Scalars cs → Cut (encode_all cs) (replacements cs) 0 (encode_all cs)
unfolding encode_all replacements
encodings_cut none = nothing
encodings_cut (more {c} h hs) = rw (← own_encode c) (character (encoded h) (encodings_cut hs))

-- ---- and those of its units, and the lone surrogates

-- a surrogate, and the value of a pair, is no U+FFFD
not_surrogate : {u : ℕ} → Surrogate u → eqb u 0xFFFD ≡ false
not_surrogate {u} (inl h) = ne_eqb u 0xFFFD (λ e. omega (arith, h.1))
not_surrogate {u} (inr h) = ne_eqb u 0xFFFD (λ e. omega (arith, h.1))

not_pair : (h l : ℕ) → eqb (pair_of h l) 0xFFFD ≡ false
unfolding pair_of
not_pair h l = ne_eqb (pair_of h l) 0xFFFD (λ e. omega arith)

replaced : {us cs : List ℕ} {n : ℕ} → Paired us n cs → replacements cs ≡ replacements us + n
unfolding replacements
replaced utf16.nothing = refl
replaced (utf16.pair {h} {l} p q w) = rw (not_pair h l, not_surrogate {u = h} (inl p), not_surrogate {u = l} (inr q)) (omega (arith, replaced w))
replaced (utf16.lone {u} f w) = rw (not_surrogate f.surrogate) (omega (arith, replaced w))
replaced (utf16.unit {u} f w) = omega (arith, replaced w)

counted : (us : List ℕ) → Scalars (scalars us) → Cut (encode_all (scalars us)) (replacements us + (one_pairing us).lone) 0 (encode_all (scalars us))
counted us h = rw (← replaced (one_pairing us).is) (encodings_cut h)

pub of_utf16 : (s : List ℕ) → ((i : ℕ) → get_or s i 0 < 256) → OfUtf16 s
unfolding one_pairing
of_utf16 s h =
    let values = wide.scalars_of (units s) (wide.units_below s h) in
    record {
      formed = wide.formed s h;
      even = wide.even s;
      values = values;
      pairing = one_pairing (units s);
      counted = λ e. rw (wide.even s e) (counted (units s) values);
      none_lone = λ e. wide.none_lone s e h;
      odd = wide.odd s;
      most = bounds.wide_length s h;
    }

pub of_scalars : (cs : List ℕ) → Scalars cs → OfScalars cs
of_scalars cs h = record { paired = pairs.units_paired h; text = wide.same_scalars h }
