-- docs/FORMAT.md, sections 5.1 and 5.2: one literal, by bits 4 to 6 of its tag and its bytes, and what the lent tables take for it.
use Rattle.std.specs.Prelude.{ℕ, List, true, false, cond, eqb}
use Rattle.std.specs.Float.Ieee.{of_bits}
use Rattle.std.specs.Float.{binary64}
use Rattle.hbc_io.specs.Outcome.{Outcome, valued, twos}
use Rattle.hbc_io.specs.Plain.{plain_at}
use Rattle.hbc_io.specs.declared.Cursor.{Cursor}
use Rattle.hbc_buffer_literal.specs.declared.Literal.{Literal}
use Rattle.hbc_buffer_literal.specs.declared.Literal.TheVariants.{Null, Bool as Truth, Number, String, Integer}

-- bits 4 to 6 give null, true, false, f64, u32 string, u16 string, u8 string, i32, from 0 to 7: how many bytes such a value has.
-- A number from 8 up, which no three bits are, counts as null
unfoldable pub width_of : ℕ → ℕ
width_of t = cond (eqb t 3) 8 (cond (eqb t 4) 4 (cond (eqb t 5) 2 (cond (eqb t 6) 1 (cond (eqb t 7) 4 0))))

-- and what it is, v the number of its bytes: null, a truth, a 64-bit float, an integer or a string number
unfoldable pub literal_of : ℕ → ℕ → Literal
literal_of t v =
    cond (eqb t 1) (Truth true)
    (cond (eqb t 2) (Truth false)
    (cond (eqb t 3) (Number (of_bits binary64 v))
    (cond (eqb t 4) (String v)
    (cond (eqb t 5) (String v)
    (cond (eqb t 6) (String v)
    (cond (eqb t 7) (Integer (twos 32 v))
    Null))))))

-- the value at the cursor; a refused read leaves it
unfoldable pub literal_at : ℕ → List ℕ → Cursor → Outcome Literal
literal_at t s c = valued (literal_of t) (plain_at (width_of t) s c)

-- kind: 0 null, 1 true, 2 false, 3 float, 4 string, 5 integer
abbrev pub kind_of : Literal → ℕ
kind_of Null = 0
kind_of (Truth true) = 1
kind_of (Truth false) = 2
kind_of (Number x) = 3
kind_of (String n) = 4
kind_of (Integer z) = 5
