-- Two things that a reader of headers may not do.
use Prim.Native.Nat.{ℕ, zero, suc, ◌+◌, ◌*◌, ◌%◌, ◌^◌, ◌≤◌, ◌<◌}
use mathlib.Core.Path.{◌≡◌, refl, sym, ◌∙◌}
use mathlib.Core.List.{List, [], ◌∷◌, ◌++◌}
use mathlib.Core.Bool.{true, false}
use native.Mathlib.Omega.{arith}
use borrow.Author.Tests.{le-ltb}
use lib.ListN.{length, replicate}
use lib.Bits.{bit_or}
use Rattle.hbc_bits.specs.Fields.{fields_of}
use Rattle.hbc_bits.specs.Bits.{le_at, field}
use Rattle.hbc_bits.proofs.Laws.{field_lt, field_or}
use Rattle.hbc_function_record.specs.declared.Layout.TheVariants.{Legacy16, Modern12}
use Rattle.hbc_function_record.specs.declared.Legacy.{Legacy}
use Rattle.hbc_function_record.specs.declared.Modern.{Modern}
use Rattle.hbc_function_record.specs.declared.Record.TheVariants as rec
use Rattle.hbc_io.specs.Answer.{gives}
use Rattle.hbc_io.specs.Lends.{below, choose}
use Rattle.hbc_function_record.specs.declared.Layout.{Layout}
use Rattle.hbc_function_record.specs.Record.{size_of, large_of, inline_of, large_at, flags_of, place_of, link_of, legacy_of, modern_of, legacy_large, modern_large, overflowed, legacy_place, modern_place, legacy_by, modern_by}
use Rattle.hbc_function_record.specs.Row.{found_at, inline_found}
use Rattle.hbc_function_header.specs.Header.{ground_of, where_of, where_at, large_found, record_at, function_at, read_function}
use Rattle.hbc_claims_law.specs.Terms.{Either, left, right, OrBit, flagged, packed_at}
use Rattle.hbc_claims_function.specs.Packed.{legacy, modern}

-- ---- a packed place bit by bit

to_one : (u v : ℕ) → Either (u ≡ 1) (v ≡ 1) → u < 2 → v < 2 → bit_or u v ≡ 1
to_one zero v (left e) h k = absurd (omega arith)
to_one zero v (right e) h k = e
to_one (suc zero) zero e h k = refl
to_one (suc zero) (suc zero) e h k = refl
to_one (suc zero) (suc (suc v)) e h k = absurd (omega arith)
to_one (suc (suc u)) v e h k = absurd (omega arith)

from_one : (u v : ℕ) → bit_or u v ≡ 1 → u < 2 → Either (u ≡ 1) (v ≡ 1)
from_one zero v e h = right e
from_one (suc zero) v e h = left refl
from_one (suc (suc u)) v e h = absurd (omega arith)

or_bit : (b x y : ℕ) → OrBit b (bit_or x y) x y
or_bit b x y =
    let u : field b 1 x < 2 = field_lt 1 b 1 x (omega arith) in
    let v : field b 1 y < 2 = field_lt 1 b 1 y (omega arith) in
    record {
      set = λ e. field_or b 1 x y ∙ to_one (field b 1 x) (field b 1 y) e u v;
      only = λ e. from_one (field b 1 x) (field b 1 y) (sym (field_or b 1 x y) ∙ e) u;
    }

pub legacy_bits : (r : Legacy) (b : ℕ) → OrBit b (legacy_place r) (r.info_offset * 65536) r.offset
unfolding legacy_place
legacy_bits r b = or_bit b (r.info_offset * 65536) r.offset

pub modern_bits : (r : Modern) (b : ℕ) → OrBit b (modern_place r) (r.name * 2 ^ 24) (r.offset % 2 ^ 24)
unfolding modern_place
modern_bits r b = or_bit b (r.name * 2 ^ 24) (r.offset % 2 ^ 24)

-- ---- large headers

-- a flagged header that fits, with a large one at its packed place that fits, is read as that, whatever the large one's own flags
pub large : (s : List ℕ) (layout : Layout) (at i : ℕ) → at + size_of layout ≤ length s → flagged s layout at ≡ true → packed_at s layout at + large_of layout ≤ length s
    → record_at s layout at i ≡ gives (large_found s layout (packed_at s layout at) i)
unfolding record_at where_at ground_of where_of below choose link_of
large s layout at i h f k =
    let l : packed_at s layout at ≤ length s = omega arith in
    rw (le-ltb (length s) (at + size_of layout) h, f, le-ltb (length s) (packed_at s layout at) l, le-ltb (length s) (packed_at s layout at + large_of layout) k)

-- one that is not flagged is read from its own bytes
pub own : (s : List ℕ) (layout : Layout) (at i : ℕ) → at + size_of layout ≤ length s → flagged s layout at ≡ false
    → record_at s layout at i ≡ gives (inline_found layout i (le_at s at (size_of layout)))
unfolding record_at where_at ground_of where_of below choose link_of
own s layout at i h f = rw (le-ltb (length s) (at + size_of layout) h, f)

-- on P3's numbers the packed place is not the sum of its parts
pub not_added : legacy_place (legacy 65552 2 10 3 1 5 1 2 3 4) ≡ 1 * 65536 + 65552 → ⊥
unfolding legacy_place
not_added e = let z : ◌≡◌ {A = ℕ} 65552 131088 = e in omega arith

-- a large header that is flagged itself is the record as it stands
pub not_followed : (read_function (16 ∷ replicate 14 0 ++ 32 ∷ replicate 30 0 ++ 32 ∷ []) Legacy16 0 0 ≡ gives (found_at 16 (rec.Legacy (legacy 0 0 0 0 0 0 0 0 0 32))))
    × (read_function (12 ∷ replicate 10 0 ++ 32 ∷ replicate 36 0 ++ 32 ∷ []) Modern12 0 0 ≡ gives (found_at 12 (rec.Modern (modern 0 0 0 0 0 0 0 0 0 0 0 0 32 52))))
unfolding read_function function_at record_at where_at where_of ground_of below choose inline_of large_at flags_of place_of link_of legacy_of modern_of legacy_large modern_large legacy_place modern_place le_at field overflowed legacy_by modern_by fields_of
not_followed = (refl, refl)
