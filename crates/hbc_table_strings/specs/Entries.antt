-- docs/FORMAT.md, sections 4.3 and 4.7: small entries, and the overflow pairs that long ones take. Hermes publishes them as SmallStringTableEntry (isUTF16 : 1,
-- offset : 23, length : 8; isOverflowed at length 255) and OverflowStringTableEntry (offset and length, 32 bits each).
use Rattle.std.specs.Prelude.{ℕ, zero, suc, ◌+◌, ◌*◌, ◌/◌, List, Bool, false, cond, length, ltb, leb, eqb}
use Rattle.hbc_bits.specs.Bits.{field}
use Rattle.hbc_rows.specs.Rows.{entry_at}
use Rattle.hbc_table_strings.specs.declared.entries.Entry.{Entry}
use Rattle.hbc_table_strings.specs.declared.Mode.{Mode}
use Rattle.hbc_table_strings.specs.declared.Mode.TheVariants.{InOrder, Hermes}

-- ---- a small entry: bit 0 UTF-16 (1) or one byte a unit (0), bits 1 to 23 offset, bits 24 to 31 length in units

abbrev pub utf16 : ℕ → ℕ
utf16 raw = field 0 1 raw

abbrev pub offset_of : ℕ → ℕ
offset_of raw = field 1 23 raw

abbrev pub units_of : ℕ → ℕ
units_of raw = field 24 8 raw

-- ---- where it says that its string is

abbrev pub entry : ℕ → ℕ → Entry
entry start units = record { start = start; units = units }

-- 1 for length 255, which takes an overflow pair
unfoldable pub long_one : ℕ → ℕ
long_one raw = cond (eqb (units_of raw) 255) 1 0

-- the pairs taken before string i
unfoldable pub pairs_taken : List ℕ → ℕ → ℕ
pairs_taken small zero = 0
pairs_taken small (suc i) = pairs_taken small i + long_one (entry_at small i)

-- which pair a long entry takes, so many being taken before it: the next, in order; the offset field is not read then
-- in Hermes mode the one whose number is in the offset field: of an entry that isOverflowed, Hermes takes overflow entry [offset]
abbrev pub pair_taken : Mode → ℕ → ℕ → ℕ
pair_taken InOrder raw taken = taken
pair_taken Hermes raw taken = offset_of raw

-- string i's, if it is long
abbrev pub pair_of : Mode → List ℕ → ℕ → ℕ
pair_of mode small i = pair_taken mode (entry_at small i) (pairs_taken small i)

-- a long entry, and pair p is not there
unfoldable pub lacks_pair : ℕ → ℕ → ℕ → Bool
lacks_pair raw p pairs = cond (eqb (long_one raw) 1) (leb pairs p) false

-- pair p, offset and length; zeros if it is not there
unfoldable pub pair_at : List ℕ → ℕ → Entry
pair_at overflow p =
    cond (ltb p (length overflow / 2)) (entry (entry_at overflow (p * 2)) (entry_at overflow (p * 2 + 1))) (entry 0 0)

-- offset, and length in units: a long entry's are in pair p
unfoldable pub entry_of : ℕ → List ℕ → ℕ → Entry
entry_of raw overflow p = cond (eqb (long_one raw) 1) (pair_at overflow p) (entry (offset_of raw) (units_of raw))

-- byte length, doubled for UTF-16
unfoldable pub bytes_of : ℕ → ℕ → ℕ
bytes_of raw units = cond (eqb (utf16 raw) 1) (units * 2) units
