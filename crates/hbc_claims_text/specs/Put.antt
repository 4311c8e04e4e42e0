-- docs/FORMAT.md, section 4.8: what a call that writes a text answers and leaves.
use Rattle.std.specs.Prelude.{ℕ, ◌≤◌, ◌<◌, ◌≡◌, List, length, take, drop, Result, Ok, Err}
use Rattle.hbc_io.specs.Outcome.{limit, refusal_at}
use Rattle.hbc_io.specs.declared.Refusal.{Refusal}

-- what a call has done that writes a text into before, whatever else it refuses before the room is looked at
pub record Wrote (text before : List ℕ) (r : Result ℕ Refusal) (after : List ℕ) : Type 0 where
  -- accepted: the answer is the text's length, for which there is room; the text is in front, whole, and behind it nothing is written
  pub counts : (n : ℕ) → r ≡ Ok n → n ≡ length text
  pub fits : (n : ℕ) → r ≡ Ok n → length text ≤ length before
  pub front : (n : ℕ) → r ≡ Ok n → take n after ≡ text
  pub behind : (n : ℕ) → r ≡ Ok n → drop n after ≡ drop n before
  -- refused: nothing is written
  pub left : (k : Refusal) → r ≡ Err k → after ≡ before
  pub long : length after ≡ length before

-- of bytes s
pub record Puts (text s before : List ℕ) (r : Result ℕ Refusal) (after : List ℕ) : Type 0 where
  pub wrote : Wrote text before r after
  -- accepted exactly when there are not too many bytes and the text has room
  pub accepted : length s ≤ limit → length text ≤ length before → r ≡ Ok (length text)
  pub only : (n : ℕ) → r ≡ Ok n → length s ≤ limit
  -- 1 comes before 4
  pub too_many : limit < length s → r ≡ Err (refusal_at 1 0)
  pub no_room : length s ≤ limit → length before < length text → r ≡ Err (refusal_at 4 0)
