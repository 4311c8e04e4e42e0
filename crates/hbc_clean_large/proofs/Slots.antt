-- Slots of one header's length: what shares a byte starts in the same slot or in the one beside it, and what starts in the same slot shares one.
use Prim.Native.Nat.{ℕ, ◌+◌, ◌-◌, ◌*◌, ◌/◌, ◌≤◌, ◌<◌}
use mathlib.Core.Path.{◌≡◌}
use Rattle.std.specs.Prelude.{Option}
use native.Mathlib.Omega.{arith}
use Rattle.hbc_function_record.specs.declared.Layout.{Layout}
use Rattle.hbc_function_record.specs.declared.Layout.TheVariants as lay
use Rattle.hbc_function_record.specs.Record.{size_of, large_of}
use Rattle.hbc_clean_large.specs.Private.{Touch, Share, slot}

pub touch_back : {n p q : ℕ} → Touch n p q → Touch n q p
touch_back t = record { left = t.right; right = t.left }

pub share_back : {n : ℕ} {f : ℕ → Option ℕ} {i j : ℕ} → Share n f i j → Share n f j i
share_back s = record { one = s.other; other = s.one; touch = touch_back s.touch }

-- at most one slot further on
pub near : (layout : Layout) {p q : ℕ} → Touch (large_of layout) p q → slot (large_of layout) p ≤ slot (large_of layout) q + 1
near lay.Legacy16 {p} {q} t = let h : p < q + 31 = t.left in omega (arith, h)
near lay.Modern12 {p} {q} t = let h : p < q + 37 = t.left in omega (arith, h)

pub together : (layout : Layout) {p q : ℕ} → slot (large_of layout) p ≡ slot (large_of layout) q → Touch (large_of layout) p q
together lay.Legacy16 {p} {q} e = let h : p / 31 ≡ q / 31 = e in record { left = omega (arith, h); right = omega (arith, h) }
together lay.Modern12 {p} {q} e = let h : p / 37 ≡ q / 37 = e in record { left = omega (arith, h); right = omega (arith, h) }

pub slot_up : (layout : Layout) {p q : ℕ} → p ≤ q → slot (large_of layout) p ≤ slot (large_of layout) q
slot_up lay.Legacy16 {p} {q} h = omega (arith, h)
slot_up lay.Modern12 {p} {q} h = omega (arith, h)

-- a window that starts at or past a place has it behind itself
pub slot_below : (layout : Layout) {p k : ℕ} → p < k * large_of layout → slot (large_of layout) p < k
slot_below lay.Legacy16 {p} {k} h = let d : p < k * 31 = h in omega (arith, d)
slot_below lay.Modern12 {p} {k} h = let d : p < k * 37 = h in omega (arith, d)

-- a slot is no further on than its place
pub slot_small : (layout : Layout) (p : ℕ) → slot (large_of layout) p ≤ p
slot_small lay.Legacy16 p = omega arith
slot_small lay.Modern12 p = omega arith

pub size_small : (layout : Layout) → (0 < large_of layout) × (large_of layout < 64)
size_small lay.Legacy16 = (omega arith, omega arith)
size_small lay.Modern12 = (omega arith, omega arith)

-- where a window starts inside the file, and what that is in bytes
pub first_small : (layout : Layout) (k : ℕ) {m : ℕ} → k * large_of layout < m → k < m
first_small lay.Legacy16 k {m} h = let d : k * 31 < m = h in omega (arith, d)
first_small lay.Modern12 k {m} h = let d : k * 37 < m = h in omega (arith, d)

bytes_by : (layout : Layout) (k : ℕ) → k ≤ 4398046511104 → k * large_of layout < 18446744073709551616
bytes_by lay.Legacy16 k h = let d : k * 31 ≤ 4398046511104 * 31 = omega (arith, h) in omega (arith, d)
bytes_by lay.Modern12 k h = let d : k * 37 ≤ 4398046511104 * 37 = omega (arith, h) in omega (arith, d)

pub bytes_small : (layout : Layout) (k w : ℕ) → w ≡ large_of layout → k ≤ 4398046511104 → k * w < 18446744073709551616
bytes_small layout k w e h = rw e (bytes_by layout k h)

own_by : (layout : Layout) (k : ℕ) → k < 4294967296 → k * size_of layout < 137438953472
own_by lay.Legacy16 k h = let d : k * 16 < 4294967296 * 16 = omega (arith, h) in omega (arith, d)
own_by lay.Modern12 k h = let d : k * 12 < 4294967296 * 12 = omega (arith, h) in omega (arith, d)

-- the bytes of a table
pub own_small : (layout : Layout) (k w : ℕ) → w ≡ size_of layout → k < 4294967296 → k * w < 137438953472
own_small layout k w e h = rw e (own_by layout k h)

-- where the windows start
pub first_low : (layout : Layout) (end w : ℕ) → w ≡ large_of layout → end < 1099511627776 → end / w - 1 ≤ 1099511627776
first_low layout end w e h = let z = slot_small layout end in rw e (omega (arith, z, h))

-- a place from a window's end on is in no slot of it
pub slot_above : (layout : Layout) {p k : ℕ} → k * large_of layout ≤ p → k ≤ slot (large_of layout) p
slot_above lay.Legacy16 {p} {k} h = let d : k * 31 ≤ p = h in omega (arith, d)
slot_above lay.Modern12 {p} {k} h = let d : k * 37 ≤ p = h in omega (arith, d)
