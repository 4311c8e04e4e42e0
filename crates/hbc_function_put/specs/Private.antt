-- What only private contracts cite: no promise rests on it.
use Rattle.std.specs.Prelude.{ℕ, List, [], ◌∷◌, ◌++◌}
use Rattle.hbc_bits.specs.Fields.{bytes_of}

-- values one after another, each in n bytes
abbrev pub each_in : ℕ → List ℕ → List ℕ
each_in n [] = []
each_in n (v ∷ vs) = bytes_of n v ++ each_in n vs
