-- Characters and scalar values, and the text of bytes in UTF-8.
use Prim.Native.Nat.{ℕ}
use mathlib.Core.List.{List}
use Rattle.hbc_text_forms.specs.Utf8.{Character, utf8_text}
use Rattle.hbc_text_forms.proofs.Codes as codes
use Rattle.hbc_text_forms.proofs.Formed as formed
use Rattle.hbc_text_forms.proofs.Cuts as cuts
use Rattle.hbc_text_forms.proofs.Bounds as bounds
use Rattle.hbc_claims_text.specs.Utf8.{Coded, Codes, OneCut, OfUtf8}

coded : (c : List ℕ) → Character c → Coded c
coded c h = let d = codes.decoded h in record { scalar = d.scalar; is_scalar = d.is_scalar; is = d.is }

pub all_codes : Codes
all_codes = record { all = λ c h. codes.encoded h; only = coded; apart = codes.one_code }

one_cut : (s : List ℕ) → OneCut s (utf8_text s)
one_cut s =
    record {
      kept = cuts.kept_of s;
      ill = cuts.ill_of s;
      is = cuts.cut s;
      one_kept = λ k n u c. (cuts.only c).kept;
      one_ill = λ k n u c. (cuts.only c).ill;
      one_text = λ k n u c. (cuts.only c).text;
      text = cuts.text_cut (cuts.cut s);
    }

pub of_utf8 : (s : List ℕ) → OfUtf8 s
of_utf8 s =
    record {
      formed = formed.formed s;
      unchanged = λ w. formed.unchanged w;
      again = formed.twice s;
      cut = one_cut s;
      none_ill = cuts.none_ill (one_cut s).is;
      most = bounds.text_length s;
    }
