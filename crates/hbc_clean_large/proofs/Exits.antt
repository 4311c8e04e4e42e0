-- The answers of the call, refusal by refusal.
use Prim.Native.Nat.{ℕ, ◌*◌, ◌≤◌, ◌<◌}
use mathlib.Core.Path.{◌≡◌}
use mathlib.Core.List.{List}
use native.Mathlib.Omega.{arith}
use lib.ListN.{length}
use borrow.Author.Tests.{lt-ltb, le-ltb}
use Rattle.hbc_io.specs.declared.Refusal.{Refusal}
use Rattle.hbc_io.specs.Answer.{gives, refuses, refused_at, asked}
use Rattle.hbc_io.specs.Outcome.{limit}
use Rattle.hbc_io.specs.Lends.{below}
use Rattle.hbc_function_record.specs.declared.Layout.{Layout}
use Rattle.hbc_function_record.specs.Row.{width}
use Rattle.hbc_function_header.specs.Header.{function_at}
use Rattle.hbc_function.specs.Table.{scan, all, read_answer}
use Rattle.hbc_lowest.specs.Lowest.{lowest_of}
use Rattle.hbc_clean_large.specs.Large.{breaks_large, check_large}

module _ (s : List ℕ) (layout : Layout) (start count : ℕ) where
  pub check_long : limit < length s → refused_at 1 0 ≡ check_large s layout start count
  unfolding check_large read_answer below
  check_long h = rw (lt-ltb limit (length s) h)

  pub check_past : length s ≤ limit → length s < start → refused_at 2 0 ≡ check_large s layout start count
  unfolding check_large read_answer below
  check_past h k = rw (le-ltb limit (length s) h, lt-ltb (length s) start k)

  -- a table with room for the functions and no more refuses what any larger one does
  read_is : length s ≤ limit → start ≤ length s → read_answer s layout start count (count * width) ≡ asked (scan all (function_at s layout start) count)
  unfolding read_answer below
  read_is h k = rw (le-ltb limit (length s) h, le-ltb (length s) start k, le-ltb (count * width) (count * width) (omega arith))

  pub check_refused : {r : Refusal} → length s ≤ limit → start ≤ length s → refuses r ≡ asked (scan all (function_at s layout start) count)
      → refuses r ≡ check_large s layout start count
  unfolding check_large
  check_refused h k e = rw (read_is h k, ← e)

  pub check_given : {r : ℕ} → length s ≤ limit → start ≤ length s → gives tt ≡ asked (scan all (function_at s layout start) count)
      → r ≡ lowest_of (breaks_large s layout start count) count → gives r ≡ check_large s layout start count
  unfolding check_large
  check_given h k e d = rw (read_is h k, ← e, d)

-- what the call cites
pub ruleset exits = (check_long, check_past, check_refused, check_given)
