-- Laws of the groups of seven bits, and of the bytes that go on.
use mathlib.Core.Path.{◌≡◌, refl, sym, ap, ◌∙◌}
use mathlib.Core.List.{List, [], ◌∷◌}
use mathlib.Core.Bool.{Bool, true, false, cond}
use lib.Dec.{ltb, leb}
use Prim.Native.Nat.{ℕ, zero, suc, ◌+◌, ◌-◌, ◌*◌, ◌%◌, ◌^◌, ◌≤◌, ◌<◌}
use native.Mathlib.Omega.{arith}
use native.Mathlib.Nat.{mul-suc, mul_left_comm, mod-eq_of_lt}
use native.Mathlib.Numerals.{add-one}
use borrow.Author.Tests.{lt-ltb, le-ltb, lt-leb, ltb-true, ltb-false, leb-false}
use lib.ListN.{length, get_or, take, drop, length-drop}
use lib.Seq.{drop-cons, get_or-take, get_or-drop, length-take-le, take-length}
use lib.Pow.{pow-add, pow_pos, pow_mono}
use lib.Bits.{bit_or}
use Rattle.hbc_io_leb.specs.Leb.{going, groups, leb_bytes}
use Rattle.hbc_io_leb.specs.Private.{groups_of, last_of}
use Rattle.hbc_io.specs.Outcome.{got, valued, cursor_at, refusal, limit}
use Rattle.hbc_io.specs.declared.Cursor.{Cursor}
use Rattle.hbc_io.proofs.Reading.{past_test}
use Rattle.hbc_bits.proofs.Laws.{or_parts}

-- ---- groups

pub groups_lt : (l : List ℕ) (k : ℕ) → groups (take k l) < 2 ^ (7 * k)
groups_lt l zero = pow_pos (7 * 0)
groups_lt [] (suc k) = pow_pos (7 * suc k)
groups_lt (b ∷ l) (suc k) = rw (mul-suc, pow-add) (omega (arith, groups_lt l k))

pub groups_more : (l : List ℕ) (k : ℕ) → k < length l → groups (take (suc k) l) ≡ (get_or l k 0 % 128) * 2 ^ (7 * k) + groups (take k l)
groups_more [] k h = absurd (omega arith)
groups_more (b ∷ l) zero h = omega arith
groups_more (b ∷ l) (suc k) h =
    let e : (get_or l k 0 % 128) * (128 * 2 ^ (7 * k)) ≡ 128 * ((get_or l k 0 % 128) * 2 ^ (7 * k)) = mul_left_comm (get_or l k 0 % 128) 128 (2 ^ (7 * k)) in
    rw (mul-suc, pow-add) (omega (arith, groups_more l k (omega arith)))

-- ---- the bytes that go on

either : (t : Bool) (m n : ℕ) → m ≤ n → cond t 0 (suc m) ≤ suc n
either true m n h = omega arith
either false m n h = omega arith

pub going_le : (l : List ℕ) → going l ≤ length l
going_le [] = omega arith
going_le (b ∷ l) = either (ltb b 128) (going l) (length l) (going_le l)

pub going_on : (s : List ℕ) (at : ℕ) → at < length s → 128 ≤ get_or s at 0 → going (drop at s) ≡ suc (going (drop (suc at) s))
going_on s at h g = rw (drop-cons s at 0 h, le-ltb (get_or s at 0) 128 g)

pub going_off : (s : List ℕ) (at : ℕ) → at < length s → get_or s at 0 < 128 → going (drop at s) ≡ 0
going_off s at h g = rw (drop-cons s at 0 h, lt-ltb (get_or s at 0) 128 g)

-- the byte after them does not go on
pub going_stops : (l : List ℕ) → going l < length l → get_or l (going l) 0 < 128
going_stops [] h = absurd (omega arith)
going_stops (b ∷ l) h = by (ltb b 128) refl (going_stops l)
  where
    by : (t : Bool) → ltb b 128 ≡ t → (going l < length l → get_or l (going l) 0 < 128) → get_or (b ∷ l) (going (b ∷ l)) 0 < 128
    by true e f = rw e (ltb-true b 128 e)
    by false e f = rw e (f (omega (arith, rw e at h)))

-- a turn of the loop that reads them: a byte that goes on is counted, and its group comes in above
pub turn_going : (s : List ℕ) (at k : ℕ) → at + k < length s → 128 ≤ get_or s (at + k) 0 → going (drop at s) ≡ k + going (drop (at + k) s)
    → going (drop at s) ≡ (k + 1) + going (drop (at + (k + 1)) s)
turn_going s at k h g e =
    let m : at + (k + 1) ≡ suc (at + k) = omega arith in
    rw m (omega (arith, going_on s (at + k) h g))

pub turn_groups : (s : List ℕ) (at k v g : ℕ) → at + k < length s → k < 10 → v ≡ groups (take k (drop at s)) % 2 ^ 64
    → g ≡ get_or s (at + k) 0 % 128 → bit_or v ((g * 2 ^ (7 * k)) % 2 ^ 64) ≡ groups (take (suc k) (drop at s)) % 2 ^ 64
turn_groups s at k v g h l e f =
    let x = groups (take k (drop at s)) in
    let b : x < 2 ^ (7 * k) = groups_lt (drop at s) k in
    let p : 2 ^ (7 * k) ≤ 2 ^ 63 = pow_mono {i = 7 * k} {j = 63} (omega arith) in
    let q : v ≡ x = e ∙ mod-eq_of_lt (omega arith) in
    let r : k < length (drop at s) = rw (length-drop at s) (omega arith) in
    rw (q, f, or_parts 64 (7 * k) (get_or s (at + k) 0 % 128) x (omega arith) b, groups_more (drop at s) k r, get_or-drop at s k 0)

pub part_long : (s : List ℕ) (at k : ℕ) → at + k < length s → k + 1 ≡ length (take (suc k) (drop at s))
part_long s at k h = rw (length-take-le (suc k) (drop at s) (rw (length-drop at s) (omega arith))) (omega arith)

-- their last byte is the last one looked at
pub part_last : (s : List ℕ) (at k : ℕ) → at + k < length s → get_or s (at + k) 0 ≡ last_of (take (suc k) (drop at s))
part_last s at k h =
    let n : length (take (suc k) (drop at s)) - 1 ≡ k = omega (arith, part_long s at k h) in
    rw n (sym (get_or-take (suc k) (drop at s) k 0 (omega arith) ∙ get_or-drop at s k 0))

-- ---- how a number ends
module _ (s : List ℕ) (c : Cursor) (short : length s ≤ limit) (inside : c.at ≤ length s) where
  pub leb_whole : (k : ℕ) → going (drop c.at s) ≡ k → k < 10 → c.at + k < length s
      → leb_bytes s c ≡ got (take (suc k) (drop c.at s)) (cursor_at (c.at + suc k))
  unfolding leb_bytes
  leb_whole k e h l = simp (e, le-ltb _ _ short, le-ltb _ _ inside, lt-leb _ _ h, lt-leb _ _ l)

-- a number of one byte
pub leb_one : (s : List ℕ) (c : Cursor) → length s ≤ limit → c.at < length s → (b : ℕ) → b < 128 → b ≡ get_or s c.at 0
    → valued groups_of (leb_bytes s c) ≡ got (record { bits = b; count = 1; last = b }) (cursor_at (c.at + 1))
leb_one s c short inside b l e =
    let w = leb_whole s c short (omega arith) 0 (going_off s c.at inside (omega arith)) (omega arith) (omega arith) in
    let n : length (take 1 (drop c.at s)) ≡ 1 = sym (part_long s c.at 0 (omega arith)) in
    let g : groups (take 1 (drop c.at s)) ≡ b = rw (drop-cons s c.at 0 inside) (omega arith) in
    let m : b % 2 ^ 64 ≡ b = mod-eq_of_lt (omega arith) in
    let t : get_or (take 1 (drop c.at s)) 0 0 ≡ b = rw (drop-cons s c.at 0 inside) (sym e) in
    rw w (simp (n, g, m, t))

pub record Number (s : List ℕ) (c : Cursor) (bs : List ℕ) (n : Cursor) : Type 0 where
  pub short : length s ≤ limit
  pub some : 1 ≤ length bs
  pub few : length bs ≤ 10
  pub room : c.at + length bs ≤ length s
  pub bytes : bs ≡ take (length bs) (drop c.at s)
  pub ends : last_of bs < 128
  pub next : n ≡ cursor_at (c.at + length bs)

-- what was got are the bytes from the cursor on, one to ten of them
pub leb_got : (s : List ℕ) (c : Cursor) (bs : List ℕ) (n : Cursor) → leb_bytes s c ≡ got bs n → Number s c bs n
unfolding leb_bytes
leb_got s c bs n e =
    let k = going (drop c.at s) in
    let p = past_test (ltb limit (length s)) (refusal 1) c _ bs n e in
    let q = past_test (ltb (length s) c.at) (refusal 2) c _ bs n p.1 in
    let r = past_test (leb 10 k) (refusal 5) (cursor_at (c.at + 10)) _ bs n q.1 in
    let t = past_test (leb (length s) (c.at + k)) (refusal 3) (cursor_at (length s)) _ bs n r.1 in
    let g : got (take (suc k) (drop c.at s)) (cursor_at (c.at + suc k)) ≡ got bs n = t.1 in
    let f : k < 10 = leb-false 10 k r.0 in
    let h : c.at + k < length s = leb-false (length s) (c.at + k) t.0 in
    let b : take (suc k) (drop c.at s) ≡ bs = cc in
    let l : length bs ≡ suc k = ap length (sym b) ∙ sym (part_long s c.at k h) ∙ add-one k in
    let m : cursor_at (c.at + suc k) ≡ n = cc in
    let z : last_of bs ≡ get_or (drop c.at s) k 0 = ap last_of (sym b) ∙ sym (part_last s c.at k h) ∙ sym (get_or-drop c.at s k 0) in
    let i : k < length (drop c.at s) = rw (length-drop c.at s) (omega arith) in
    record {
      short = ltb-false limit (length s) p.0;
      some = omega arith;
      few = omega arith;
      room = omega arith;
      bytes = rw l (sym b);
      ends = omega (arith, going_stops (drop c.at s) i);
      next = rw l (sym m);
    }

-- the groups of as many bytes as there are
pub groups_of_lt : (bs : List ℕ) → groups bs < 2 ^ (7 * length bs)
groups_of_lt bs = rw take-length at (groups_lt bs (length bs))
