-- docs/FORMAT.md, section 3.7: a function's ground meets the span [low, high) if they share a byte.
use Rattle.std.specs.Prelude.{ℕ, ◌+◌, min, max, List, Bool, true, false, Option, Some, None, cond, length, ltb}
use Rattle.hbc_io.specs.Answer.{Answer, gives, refused_at}
use Rattle.hbc_io.specs.Lends.{below}
use Rattle.hbc_function_record.specs.declared.Layout.{Layout}
use Rattle.hbc_function_record.specs.Record.{size_of, large_of}
use Rattle.hbc_function_header.specs.declared.Ground.{Ground}
use Rattle.hbc_function_header.specs.declared.Ground.TheVariants as ground
use Rattle.hbc_function_header.specs.Header.{ground_at, opened, headed}

-- the n bytes from a share one with those from low up to high: the later start is before the earlier end
unfoldable pub overlap : ℕ → ℕ → ℕ → ℕ → Bool
overlap a n low high = ltb (max a low) (min (a + n) high)

-- its own bytes, and those of its large header if it has one; nothing meets nothing
unfoldable pub ground_meets : ℕ → ℕ → ℕ → ℕ → Option Ground → Bool
ground_meets own large low high None = false
ground_meets own large low high (Some (ground.Inline at)) = overlap at own low high
ground_meets own large low high (Some (ground.Large at place)) = cond (overlap at own low high) true (overlap place large low high)

-- function i of the table at start
unfoldable pub meets : List ℕ → Layout → ℕ → ℕ → ℕ → ℕ → Bool
meets s layout start low high i = ground_meets (size_of layout) (large_of layout) low high (ground_at s layout start i)

-- 10: low > high, or high > length; else what follows
abbrev pub spanned : {A : Type 0} → List ℕ → ℕ → ℕ → Answer A → Answer A
spanned s low high a = below high low (refused_at 10 0) (below (length s) high (refused_at 10 0) a)

-- the answer of the call: 1, 2, 10, 3, then whether it meets the span
unfoldable pub function_meets : List ℕ → Layout → ℕ → ℕ → ℕ → ℕ → Answer Bool
function_meets s layout start i low high = opened s start (spanned s low high (headed s layout start i (gives (meets s layout start low high i))))
