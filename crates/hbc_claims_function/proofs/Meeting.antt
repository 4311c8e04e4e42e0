-- A function meets a span where its own header, or the large header that it is flagged for, shares a byte with it.
use Prim.Native.Nat.{ℕ, ◌+◌, ◌≤◌, ◌<◌, min, max}
use mathlib.Core.Path.{◌≡◌}
use mathlib.Core.List.{List}
use mathlib.Core.Bool.{true, false, cond}
use native.Mathlib.Omega.{arith}
use borrow.Author.Tests.{lt-ltb, le-ltb, ltb-true}
use lib.ListN.{length}
use Rattle.hbc_io.specs.Lends.{below, choose}
use Rattle.hbc_function_record.specs.declared.Layout.{Layout}
use Rattle.hbc_function_record.specs.Record.{size_of, large_of, link_of}
use Rattle.hbc_function_header.specs.Header.{header_at, ground_of, ground_at}
use Rattle.hbc_function_header.specs.Meets.{overlap, ground_meets, meets}
use Rattle.hbc_claims_law.specs.Terms.{flagged, packed_at, Shared}

pub shares_byte : (a n low high : ℕ) → overlap a n low high ≡ true → Shared a n low high (max a low)
unfolding overlap
shares_byte a n low high e =
    let h : max a low < min (a + n) high = ltb-true (max a low) (min (a + n) high) e in
    record { from = omega arith; to = omega arith; low_on = omega arith; before_high = omega arith }

pub byte_shares : {a n low high j : ℕ} → Shared a n low high j → overlap a n low high ≡ true
unfolding overlap
byte_shares {a} {n} {low} {high} v = lt-ltb (max a low) (min (a + n) high) (omega (arith, v.from, v.to, v.low_on, v.before_high))

module _ (s : List ℕ) (layout : Layout) (start low high i : ℕ) where
  -- nothing where its header is not in the file
  pub met_none : length s < header_at layout start i + size_of layout → meets s layout start low high i ≡ false
  unfolding meets ground_meets ground_at ground_of below
  met_none h = rw (lt-ltb (length s) (header_at layout start i + size_of layout) h)

  -- not flagged: its own header
  pub met_own : header_at layout start i + size_of layout ≤ length s → flagged s layout (header_at layout start i) ≡ false
      → meets s layout start low high i ≡ overlap (header_at layout start i) (size_of layout) low high
  unfolding meets ground_meets ground_at ground_of below link_of choose
  met_own h f = rw (le-ltb (length s) (header_at layout start i + size_of layout) h, f)

  -- flagged: that or the large one at its packed place
  pub met_large : header_at layout start i + size_of layout ≤ length s → flagged s layout (header_at layout start i) ≡ true
      → meets s layout start low high i
      ≡ cond (overlap (header_at layout start i) (size_of layout) low high) true (overlap (packed_at s layout (header_at layout start i)) (large_of layout) low high)
  unfolding meets ground_meets ground_at ground_of below link_of choose
  met_large h f = rw (le-ltb (length s) (header_at layout start i + size_of layout) h, f)
