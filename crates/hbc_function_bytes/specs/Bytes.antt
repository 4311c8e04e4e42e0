-- docs/FORMAT.md, section 3.9: a row's bytes: which rows go inline, an inline header, a large one, and the inline header that says where a large one is.
use Rattle.std.specs.Prelude.{ℕ, ◌/◌, ◌%◌, ◌^◌, List, [], ◌∷◌, Bool, true, false, not, cond, get_or, eqb, ltb}
use Rattle.hbc_bits.specs.Fields.{joined, fit, bytes_of, laid}
use Rattle.hbc_function_record.specs.declared.Layout.{Layout}
use Rattle.hbc_function_record.specs.declared.Layout.TheVariants as lay
use Rattle.hbc_function_record.specs.BitLayout.{fields_in}
use Rattle.hbc_function_record.specs.Record.{size_of, overflowed}
use Rattle.hbc_function_record.specs.Row.{ROW_LAYOUT, ROW_ID, ROW_OFFSET, ROW_PARAM_COUNT, ROW_SIZE, ROW_NAME, ROW_INFO_OFFSET, ROW_FRAME_SIZE}
use Rattle.hbc_function_record.specs.Row.{ROW_FLAGS, number_in}
use Rattle.hbc_function_record.specs.Row.{ROW_ENVIRONMENT_SIZE, ROW_READ, ROW_WRITE}
use Rattle.hbc_function_record.specs.Row.{ROW_LOOP_DEPTH, ROW_NUMBER_REG, ROW_NON_PTR_REG, ROW_READ_CACHE, ROW_WRITE_CACHE, ROW_NEW_OBJECT, ROW_PRIVATE_NAME}

-- ---- the fields of a header, in the order in which it holds them

-- inline by the lists that the reader cuts by, `fields_in`; large: the bytes of each, legacy seven u32 and three bytes, modern eight u32 and five bytes
abbrev pub sizes_in : Layout → List ℕ
sizes_in lay.Legacy16 = 4 ∷ 4 ∷ 4 ∷ 4 ∷ 4 ∷ 4 ∷ 4 ∷ 1 ∷ 1 ∷ 1 ∷ []
sizes_in lay.Modern12 = 4 ∷ 4 ∷ 4 ∷ 4 ∷ 4 ∷ 4 ∷ 4 ∷ 4 ∷ 1 ∷ 1 ∷ 1 ∷ 1 ∷ 1 ∷ []

-- the word of a row that each is
abbrev pub places_in : Layout → List ℕ
places_in lay.Legacy16 =
    ROW_OFFSET ∷ ROW_PARAM_COUNT ∷ ROW_SIZE ∷ ROW_NAME ∷ ROW_INFO_OFFSET ∷ ROW_FRAME_SIZE ∷ ROW_ENVIRONMENT_SIZE ∷ ROW_READ ∷ ROW_WRITE ∷ ROW_FLAGS ∷ []
places_in lay.Modern12 =
    ROW_OFFSET ∷ ROW_PARAM_COUNT ∷ ROW_LOOP_DEPTH ∷ ROW_SIZE ∷ ROW_NAME ∷ ROW_NUMBER_REG ∷ ROW_NON_PTR_REG ∷ ROW_FRAME_SIZE ∷ ROW_READ_CACHE
    ∷ ROW_WRITE_CACHE ∷ ROW_NEW_OBJECT ∷ ROW_PRIVATE_NAME ∷ ROW_FLAGS ∷ []

-- the words of a row at these places
abbrev pub words_at : List ℕ → List ℕ → List ℕ
words_at [] w = []
words_at (k ∷ ks) w = get_or w k 0 ∷ words_at ks w

-- a row's values, in a header's order
unfoldable pub values_in : Layout → List ℕ → List ℕ
values_in layout w = words_at (places_in layout) w

-- ---- which rows go inline

-- every one of these tests holds
abbrev pub all : List Bool → Bool
all [] = true
all (b ∷ bs) = cond b (all bs) false

-- in modern, info_offset is 0
abbrev pub info_free : Layout → List ℕ → Bool
info_free lay.Legacy16 w = true
info_free lay.Modern12 w = eqb (get_or w ROW_INFO_OFFSET 0) 0

-- all its fields fit, its overflow bit is clear and, in modern, info_offset is 0
unfoldable pub goes_inline : Layout → List ℕ → Bool
goes_inline layout w = all (fit (fields_in layout) (values_in layout w) ∷ not (overflowed (get_or w ROW_FLAGS 0)) ∷ info_free layout w ∷ [])

-- ---- the bytes of a header that holds these values

-- an inline one: the number that is made of its fields
unfoldable pub inline_number : Layout → List ℕ → ℕ
inline_number layout vs = joined (fields_in layout) vs

unfoldable pub inline_bytes : Layout → List ℕ → List ℕ
inline_bytes layout vs = bytes_of (size_of layout) (inline_number layout vs)

-- a large one: value after value
unfoldable pub large_bytes : Layout → List ℕ → List ℕ
large_bytes layout vs = laid (sizes_in layout) vs

-- what the inline header of a large one holds: the packed place, the overflow bit, and zero elsewhere. In legacy info_offset is the place divided by
-- 65536, in modern name the place divided by 2^24; offset is the remainder
unfoldable pub pointer_to : Layout → ℕ → List ℕ
pointer_to lay.Legacy16 place = place % 65536 ∷ 0 ∷ 0 ∷ 0 ∷ place / 65536 ∷ 0 ∷ 0 ∷ 0 ∷ 0 ∷ 2 ^ 5 ∷ []
pointer_to lay.Modern12 place = place % 2 ^ 24 ∷ 0 ∷ 0 ∷ 0 ∷ place / 2 ^ 24 ∷ 0 ∷ 0 ∷ 0 ∷ 0 ∷ 0 ∷ 0 ∷ 0 ∷ 2 ^ 5 ∷ []

-- ---- which rows are right

-- the words that a large header holds in one byte
abbrev pub byte_wide : Layout → List ℕ
byte_wide lay.Legacy16 = ROW_READ ∷ ROW_WRITE ∷ ROW_FLAGS ∷ []
byte_wide lay.Modern12 = ROW_READ_CACHE ∷ ROW_WRITE_CACHE ∷ ROW_NEW_OBJECT ∷ ROW_PRIVATE_NAME ∷ ROW_FLAGS ∷ []

-- the words that no field is, behind the last
abbrev pub zeros_in : Layout → List ℕ
zeros_in lay.Legacy16 = 12 ∷ 13 ∷ 14 ∷ 15 ∷ []
zeros_in lay.Modern12 = []

-- each of these passes a test
abbrev pub each : (ℕ → Bool) → List ℕ → Bool
each p [] = true
each p (v ∷ vs) = cond (p v) (each p vs) false

-- row i is right: layout and id are its own, what has one byte is below 256, what is no field is 0
unfoldable pub right_row : Layout → ℕ → List ℕ → Bool
right_row layout i w =
    all (eqb (get_or w ROW_LAYOUT 0) (number_in layout) ∷ eqb (get_or w ROW_ID 0) i ∷ each (λ v. ltb v 256) (words_at (byte_wide layout) w)
    ∷ each (λ v. eqb v 0) (words_at (zeros_in layout) w) ∷ [])
