-- docs/FORMAT.md, section 3.9: a header put into the bytes that are lent for it.
use Rattle.std.specs.Prelude.{ℕ, List, [], ◌∷◌, length, get_or, eqb}
use Rattle.hbc_bits.specs.Fields.{laid}
use Rattle.hbc_io.specs.Lends.{choose}
use Rattle.hbc_function_record.specs.declared.Layout.{Layout}
use Rattle.hbc_function_record.specs.declared.Layout.TheVariants as lay
use Rattle.hbc_function_record.specs.Record.{size_of, large_of}
use Rattle.hbc_function_bytes.specs.Bytes.{values_in, large_bytes}

-- an inline header in words: the bytes of each
abbrev pub word_sizes : Layout → List ℕ
word_sizes lay.Legacy16 = 4 ∷ 4 ∷ 4 ∷ 4 ∷ []
word_sizes lay.Modern12 = 4 ∷ 4 ∷ 4 ∷ []

-- the four that are given, of which modern takes three
abbrev pub four_of : List ℕ → List ℕ
four_of w = get_or w 0 0 ∷ get_or w 1 0 ∷ get_or w 2 0 ∷ get_or w 3 0 ∷ []

-- what becomes of bytes b that are lent for an inline header: its words, if they are just as many; else they are as they were
unfoldable pub header_put : Layout → List ℕ → List ℕ → List ℕ
header_put layout ws b = choose (eqb (length b) (size_of layout)) (laid (word_sizes layout) (four_of ws)) b

-- and for the large header of a row of words w
unfoldable pub large_put : Layout → List ℕ → List ℕ → List ℕ
large_put layout w b = choose (eqb (length b) (large_of layout)) (large_bytes layout (values_in layout w)) b
