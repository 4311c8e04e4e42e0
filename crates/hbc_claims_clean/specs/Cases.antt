-- docs/FORMAT.md, section 10.10: worked bundles, K1 to K9, each proved by computation.
use Rattle.std.specs.Prelude.{ℕ, ◌≡◌, List, [], ◌∷◌, ◌++◌, replicate}
use Rattle.hbc_io.specs.Answer.{Answer, gives, refused_at}
use Rattle.hbc_function_record.specs.declared.Layout.{Layout}
use Rattle.hbc_function_record.specs.declared.Layout.TheVariants.{Legacy16, Modern12}
use Rattle.hbc_clean.specs.Bundle.{Given, given, Verdict, clean, broken, check_bundle}

-- headers alone, of a table at 0
abbrev pub headers : List ℕ → Layout → ℕ → Given
headers file layout count = given file layout 0 count [] 0 [] [] [] [] [] []

-- strings alone
abbrev pub texts : List ℕ → ℕ → List ℕ → List ℕ → List ℕ → Given
texts kinds strings small overflow storage = given [] Legacy16 0 0 kinds strings small overflow storage [] [] []

-- literals, and one string, of no bytes
abbrev pub literals : List ℕ → List ℕ → List ℕ → Given
literals keys values series = given [] Legacy16 0 0 (1 ∷ []) 1 (0 ∷ []) [] (0 ∷ []) keys values series

-- two functions with large headers at p and q, below 256, in a file of n zeros behind the table, which ends at 32, or at 24
abbrev pub legacy_two : ℕ → ℕ → ℕ → Given
legacy_two p q n = headers (p ∷ replicate 14 0 ++ 32 ∷ q ∷ replicate 14 0 ++ 32 ∷ replicate n 0) Legacy16 2

abbrev pub modern_two : ℕ → ℕ → ℕ → Given
modern_two p q n = headers (p ∷ replicate 10 0 ++ 32 ∷ q ∷ replicate 10 0 ++ 32 ∷ replicate n 0) Modern12 2

abbrev pub Checked : Given → Answer Verdict → Type 0
Checked g a = check_bundle g ≡ a

abbrev pub cases : List {1} (Type 0)
cases =
    -- K1: nothing at all is clean
    Checked (headers [] Legacy16 0) (gives clean)
    -- K2: large headers that touch share no byte, in any order
    ∷ Checked (legacy_two 32 63 62) (gives clean)
    ∷ Checked (legacy_two 63 32 62) (gives clean)
    ∷ Checked (modern_two 24 61 74) (gives clean)
    -- K3: one byte in common, or all: of two the lower function
    ∷ Checked (legacy_two 32 62 62) (gives (broken 1 0))
    ∷ Checked (legacy_two 62 32 62) (gives (broken 1 0))
    ∷ Checked (legacy_two 40 40 62) (gives (broken 1 0))
    ∷ Checked (modern_two 60 24 74) (gives (broken 1 0))
    -- K4: one byte before the table's end
    ∷ Checked (legacy_two 62 31 62) (gives (broken 1 1))
    ∷ Checked (modern_two 60 23 74) (gives (broken 1 1))
    -- K5: a header that cannot be read is refused before any rule
    ∷ Checked (legacy_two 32 62 60) (refused_at 3 1)
    -- K6: lengths that add up to another number than the string count; an empty run, which comes before their sum
    ∷ Checked (texts (2 ∷ 1 ∷ []) 3 [] [] []) (gives clean)
    ∷ Checked (texts (2 ∷ []) 3 [] [] []) (gives (broken 2 1))
    ∷ Checked (texts (2 ∷ 0 ∷ 1 ∷ []) 3 [] [] []) (gives (broken 2 1))
    ∷ Checked (texts (2 ∷ 0 ∷ []) 3 [] [] []) (gives (broken 2 1))
    ∷ Checked (texts [] 1 [] [] []) (gives (broken 2 0))
    -- K7: a string that starts at the storage's end; one of length 255 takes the pair of its offset field, here the second; that it lacks it is refused
    ∷ Checked (texts (1 ∷ []) 1 (2 ∷ []) [] (0 ∷ [])) (gives (broken 3 0))
    ∷ Checked (texts (1 ∷ []) 1 (4278190082 ∷ []) (0 ∷ 5 ∷ 0 ∷ 1 ∷ []) (0 ∷ [])) (gives clean)
    ∷ Checked (texts (1 ∷ []) 1 (4278190080 ∷ []) (0 ∷ 5 ∷ 0 ∷ 1 ∷ []) (0 ∷ [])) (gives (broken 3 0))
    ∷ Checked (texts (0 ∷ []) 1 (4278190082 ∷ []) (0 ∷ 5 ∷ []) (0 ∷ [])) (refused_at 8 0)
    -- K8: a tag of length 0 before the only value, and right after it; in the keys; none is passed where no value is asked for; a series that is cut
    ∷ Checked (literals [] (0 ∷ 1 ∷ []) (0 ∷ 0 ∷ 1 ∷ [])) (gives (broken 4 0))
    ∷ Checked (literals [] (1 ∷ 0 ∷ []) (0 ∷ 0 ∷ 1 ∷ [])) (gives clean)
    ∷ Checked (literals (0 ∷ 1 ∷ []) (1 ∷ []) (0 ∷ 0 ∷ 1 ∷ 1 ∷ 0 ∷ 1 ∷ [])) (gives (broken 4 1))
    ∷ Checked (literals [] [] (0 ∷ 9 ∷ 0 ∷ [])) (gives clean)
    ∷ Checked (literals [] (0 ∷ 1 ∷ []) (0 ∷ 0 ∷ 1 ∷ 0 ∷ 1 ∷ 2 ∷ [])) (refused_at 3 1)
    -- K9: a string number equal to the count, and below it; a later series that breaks rule 4 comes first
    ∷ Checked (literals [] (97 ∷ 1 ∷ []) (0 ∷ 0 ∷ 1 ∷ [])) (gives (broken 5 0))
    ∷ Checked (literals [] (97 ∷ 0 ∷ []) (0 ∷ 0 ∷ 1 ∷ [])) (gives clean)
    ∷ Checked (literals [] (97 ∷ 1 ∷ 0 ∷ 1 ∷ []) (0 ∷ 0 ∷ 1 ∷ 0 ∷ 2 ∷ 1 ∷ [])) (gives (broken 4 1))
    ∷ []
