-- Whether bits were lost, by the count of bytes and the last one, is by the tenth.
use mathlib.Core.Path.{◌≡◌, ap}
use mathlib.Core.List.{List}
use mathlib.Core.Bool.{true}
use Prim.Native.Nat.{ℕ, ◌-◌, ◌≤◌, ◌<◌}
use native.Mathlib.Omega.{arith}
use borrow.Author.Tests.{lt-ltb, le-ltb}
use lib.ListN.{length, get_or, get_or-eq_default}
use Rattle.hbc_io_leb.specs.Leb.{tenth, exact_unsigned, exact_signed}
use Rattle.hbc_io_leb.specs.Private.{last_of, exact_u, exact_s}
use Rattle.hbc_io_leb.proofs.Slebs.{by_le}

-- fewer than ten lose none; of ten the last one tells
module _ (count last : ℕ) where
  pub few_u : count < 10 → true ≡ exact_u count last
  few_u h = rw (lt-ltb count 10 h)

  pub few_s : count < 10 → true ≡ exact_s count last
  few_s h = rw (lt-ltb count 10 h)

module _ (bs : List ℕ) (few : length bs ≤ 10) where
  last_is : 10 ≤ length bs → last_of bs ≡ tenth bs
  last_is h = let n : length bs ≡ 10 = omega arith in ap (λ (k : ℕ). get_or bs (k - 1) 0) n

  none_lost : length bs ≤ 9 → tenth bs ≡ 0
  none_lost h = get_or-eq_default bs 0 h

  pub exact_u_lem : exact_u (length bs) (last_of bs) ≡ exact_unsigned bs
  exact_u_lem =
      by_le 10 (length bs)
      (λ h. rw (le-ltb (length bs) 10 h, last_is h))
      (λ h. rw (lt-ltb (length bs) 10 h, none_lost (omega arith)))

  pub exact_s_lem : exact_s (length bs) (last_of bs) ≡ exact_signed bs
  exact_s_lem =
      by_le 10 (length bs)
      (λ h. rw (le-ltb (length bs) 10 h, last_is h))
      (λ h. rw (lt-ltb (length bs) 10 h, none_lost (omega arith)))
