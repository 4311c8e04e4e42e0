-- docs/FORMAT.md, sections 8.1 and 12.7: the profile with its layout and its answer as numbers, and a word lent for the place.
use Rattle.std.specs.Prelude.{ℕ, min, ◌≡◌, List}
use Rattle.hbc_io.specs.Answer.{Answer, gives, refuses}
use Rattle.hbc_clean.specs.Bundle.{Given, given, Bundle, Verdict, clean, broken, says_bundle, check_bundle}
use Rattle.hbc_c_code.specs.Told.{Told}
use Rattle.hbc_c_function.specs.Function.{ByLayout}

-- 0 clean, else the rule
abbrev pub rule_of : Verdict → ℕ
rule_of clean = 0
rule_of (broken k place) = k

-- a place as a word: one from 2^32 - 1 on is told as 2^32 - 1
abbrev pub place_word : ℕ → ℕ
place_word place = min place 4294967295

-- the word lent for the place: that of a broken rule, else what was there
abbrev pub place_left : Answer Verdict → ℕ → ℕ
place_left (gives clean) before = before
place_left (gives (broken k place)) before = place_word place
place_left (refuses r) before = before

-- the answer of the call, and the word
pub record Placed (g : Given) (before : ℕ) (r : Bundle) (after : ℕ) : Type 0 where
  pub is : says_bundle r ≡ check_bundle g
  pub left : after ≡ place_left (says_bundle r) before

abbrev pub BundleTold : Given → ℕ → ℕ → ℕ → Type 0
BundleTold g before = Told rule_of says_bundle (Placed g before)

-- by the number of a layout
abbrev pub ToldBundle : List ℕ → ℕ → ℕ → ℕ → List ℕ → ℕ → List ℕ → List ℕ → List ℕ → List ℕ → List ℕ → List ℕ → ℕ → ℕ → ℕ → Type 0
ToldBundle file layout start count kinds strings small overflow storage keys values series before =
    ByLayout layout (λ l. BundleTold (given file l start count kinds strings small overflow storage keys values series) before) before
