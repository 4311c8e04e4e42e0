-- docs/FORMAT.md, section 2.3: LEB128 numbers as DWARF 5, section 7.6, has them, and what the reader makes of them: at most ten bytes, and
-- 64 bits of the value.
use Rattle.std.specs.Prelude.{ℕ, suc, ◌+◌, ◌*◌, ◌%◌, ◌^◌, List, [], ◌∷◌, Bool, true, cond, length, get_or, take, drop, ℤ, ltb, leb, eqb}
use Rattle.hbc_io.specs.Outcome.{Outcome, got, refused, cursor_at, refusal, twos, low_bits}
use Rattle.hbc_io.specs.Plain.{started}
use Rattle.hbc_io.specs.declared.Cursor.{Cursor}

-- ---- DWARF 5, section 7.6: the value of a number's bytes

-- seven-bit groups, the least significant first
abbrev pub groups : List ℕ → ℕ
groups [] = 0
groups (b ∷ bs) = b % 128 + 128 * groups bs

abbrev pub dwarf_unsigned : List ℕ → ℕ
dwarf_unsigned bs = groups bs

-- n groups in two's complement of 7 n bits
abbrev pub dwarf_signed : List ℕ → ℤ
dwarf_signed bs = twos (7 * length bs) (groups bs)

-- ---- which bytes they are

-- how many bytes in front say that another follows: bit 7 set
abbrev pub going : List ℕ → ℕ
going [] = 0
going (b ∷ bs) = cond (ltb b 128) 0 (suc (going bs))

-- the bytes at the cursor up to and with the first whose bit 7 is clear. 5: the tenth has it set; 3: the input ends before.
-- Refused so, the cursor stands after the last byte looked at
unfoldable pub leb_bytes : List ℕ → Cursor → Outcome (List ℕ)
leb_bytes s c =
    started s c
    (cond (leb 10 (going (drop c.at s))) (refused (refusal 5) (cursor_at (c.at + 10)))
    (cond (leb (length s) (c.at + going (drop c.at s))) (refused (refusal 3) (cursor_at (length s)))
    (got (take (suc (going (drop c.at s))) (drop c.at s)) (cursor_at (c.at + suc (going (drop c.at s)))))))

-- ---- what is answered of them: the low 64 bits

abbrev pub unsigned_of : List ℕ → ℕ
unsigned_of bs = dwarf_unsigned bs % 2 ^ 64

-- the low 64 bits of a signed number, again in two's complement
abbrev pub low64 : ℤ → ℤ
low64 z = twos 64 (low_bits 64 z)

abbrev pub signed_of : List ℕ → ℤ
signed_of bs = low64 (dwarf_signed bs)

-- ---- whether they are exact: a tenth byte can lose bits, no other does

-- the tenth byte, 0 where there are fewer
abbrev pub tenth : List ℕ → ℕ
tenth bs = get_or bs 9 0

-- an unsigned number is not exact when its tenth byte is above 1
abbrev pub exact_unsigned : List ℕ → Bool
exact_unsigned bs = leb (tenth bs) 1

-- a signed one when it is neither 00 nor 7F
abbrev pub exact_signed : List ℕ → Bool
exact_signed bs = cond (eqb (tenth bs) 0) true (eqb (tenth bs) 127)
