-- docs/FORMAT.md, section 2.4: strings, as spans of the input: ended by a zero byte, or with their length in front.
use Rattle.std.specs.Prelude.{ℕ, suc, ◌+◌, List, [], ◌∷◌, cond, length, drop, leb, eqb}
use Rattle.hbc_io.specs.Outcome.{Outcome, got, refused, valued, and_then, cursor_at, refusal}
use Rattle.hbc_io.specs.Plain.{started, span_of, bytes_at}
use Rattle.hbc_io.specs.declared.Cursor.{Cursor}
use Rattle.hbc_io.specs.declared.Span.{Span}
use Rattle.hbc_io_leb.specs.Leb.{leb_bytes}
use Rattle.hbc_io_leb.specs.Answers.{uleb_of}
use Rattle.hbc_io_leb.specs.declared.Uleb.{Uleb}
use Rattle.hbc_io_strings.specs.declared.Prefixed.{Prefixed}

-- how many bytes stand before the first zero
abbrev pub before0 : List ℕ → ℕ
before0 [] = 0
before0 (b ∷ bs) = cond (eqb b 0) 0 (suc (before0 bs))

-- the bytes before the first zero, and on past it. 9: there is none; the cursor then stands at the end
unfoldable pub zero_ended : List ℕ → Cursor → Outcome Span
zero_ended s c =
    started s c
    (cond (leb (length s) (c.at + before0 (drop c.at s))) (refused (refusal 9) (cursor_at (length s)))
    (got (span_of c.at (before0 (drop c.at s))) (cursor_at (c.at + before0 (drop c.at s) + 1))))

-- a ULEB128 number, and as many bytes; where they are not there the cursor stays after the number
unfoldable pub prefixed : List ℕ → Cursor → Outcome Span
prefixed s c = and_then (valued uleb_of (leb_bytes s c)) (λ u n. bytes_at u.value s n)

-- a string, and whether its length is exact
abbrev pub string_of : Uleb → Span → Prefixed
string_of u p = record { span = p; exact = u.exact }

-- the same string with that mark
unfoldable pub marked_at : List ℕ → Cursor → Outcome Prefixed
marked_at s c = and_then (valued uleb_of (leb_bytes s c)) (λ u n. valued (string_of u) (bytes_at u.value s n))
