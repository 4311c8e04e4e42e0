-- What a plain read found says of the bytes, and when it finds them, over the width.
use mathlib.Core.Path.{◌≡◌}
use mathlib.Core.Bool.{Bool, true, false, cond}
use mathlib.Core.List.{List}
use Prim.Native.Nat.{ℕ, zero, suc, ◌+◌, ◌-◌, ◌*◌, ◌^◌, ◌≤◌, ◌<◌}
use native.Mathlib.Omega.{arith}
use borrow.Author.Tests.{ltb-false, le-ltb, lt-ltb}
use lib.ListN.{length, get_or}
use lib.Pow.{pow_mono, pow_pos}
use lib.Dec.{ltb}
use Rattle.hbc_bits.specs.Bits.{le_at}
use Rattle.hbc_bits.proofs.Laws.{Bytes, le_lt, le_step}
use Rattle.hbc_io.specs.Outcome.{got, refused, cursor_at, refusal, limit, left}
use Rattle.hbc_io.specs.Plain.{started, needing, plain_at, word_at, bytes_at, span_of}
use Rattle.hbc_io.specs.declared.Cursor.{Cursor}
use Rattle.hbc_io.specs.declared.Refusal.{Refusal}
use Rattle.hbc_io.specs.declared.Span.{Span}
use Rattle.hbc_io.proofs.Reading.{past_test, not_both}

-- ---- the loop that gathers the bytes

-- seven bytes or fewer leave room for one more
pub le_room : (s : List ℕ) (at w : ℕ) → Bytes s → w < 8 → le_at s at w * 256 + 255 < 2 ^ 64
le_room s at w b h =
    let p : 2 ^ (8 * w) ≤ 2 ^ 56 = pow_mono {i = 8 * w} {j = 56} (omega arith) in
    omega (arith, le_lt s at w b)

-- a turn: the next byte down comes in below
pub le_turn : (s : List ℕ) (at width k v b : ℕ) → zero < k → k ≤ width → at + width ≤ length s
    → v ≡ le_at s (at + k) (width - k) → b ≡ get_or s (at + (k - 1)) 0
    → v * 256 + b ≡ le_at s (at + (k - 1)) (width - (k - 1))
le_turn s at width k v b h l r e f =
    let n : width - (k - 1) ≡ suc (width - k) = omega arith in
    let m : suc (at + (k - 1)) ≡ at + k = omega arith in
    let p = le_step s (at + (k - 1)) (width - k) (omega arith) in
    rw n (omega (arith, rw m at p))

-- ---- what a read found

-- n bytes were there
pub record There (n : ℕ) (s : List ℕ) (c m : Cursor) : Type 0 where
  pub short : length s ≤ limit
  pub room : c.at + n ≤ length s
  pub next : m ≡ cursor_at (c.at + n)

module _ {A : Type 0} (n : ℕ) (s : List ℕ) (c : Cursor) (x v : A) (m : Cursor) where
  -- the value is the one that stood there: the law of every read of n bytes
  there : started s c (needing n s c (got x (cursor_at (c.at + n)))) ≡ got v m
      → (v ≡ x) × There n s c m
  there e =
      let p = past_test (ltb limit (length s)) (refusal 1) c _ v m e in
      let q = past_test (ltb (length s) c.at) (refusal 2) c _ v m p.1 in
      let r = past_test (ltb (left s c) n) (refusal 3) c _ v m q.1 in
      let a : c.at ≤ length s = ltb-false (length s) c.at q.0 in
      let b : n ≤ length s - c.at = ltb-false (left s c) n r.0 in
      let g : got x (cursor_at (c.at + n)) ≡ got v m = r.1 in
      (cc, record { short = ltb-false limit (length s) p.0; room = omega arith; next = cc })

pub plain_got : (w : ℕ) (s : List ℕ) (c : Cursor) (v : ℕ) (n : Cursor) → plain_at w s c ≡ got v n → (v ≡ le_at s c.at w) × There w s c n
unfolding plain_at
plain_got w s c v n e = there w s c _ v n e

pub bytes_got : (n : ℕ) (s : List ℕ) (c : Cursor) (p : Span) (m : Cursor) → bytes_at n s c ≡ got p m → (p ≡ span_of c.at n) × There n s c m
unfolding bytes_at
bytes_got n s c p m e = there n s c _ p m e

-- a number of w bytes is below 2 ^ (8 w)
pub plain_lt : (w : ℕ) (s : List ℕ) (c : Cursor) (v : ℕ) (n : Cursor) → Bytes s → plain_at w s c ≡ got v n → v < 2 ^ (8 * w)
plain_lt w s c v n b e = rw (plain_got w s c v n e).0 (le_lt s c.at w b)

-- where the bytes are there, the number is got
pub plain_is : (w : ℕ) (s : List ℕ) (c : Cursor) → length s ≤ limit → c.at + w ≤ length s → plain_at w s c ≡ got (le_at s c.at w) (cursor_at (c.at + w))
unfolding plain_at
plain_is w s c h l =
    simp (le-ltb _ _ h, le-ltb (length s) c.at (omega arith), le-ltb (length s - c.at) w (omega arith))

-- for a caller that has tested the bytes: what it reads is the number there, and it is not refused
module _ (w : ℕ) (s : List ℕ) (at : ℕ) where
  pub plain_value : {v : ℕ} {n : Cursor} → plain_at w s (cursor_at at) ≡ got v n → v ≡ le_at s at w
  plain_value {v} {n} e = (plain_got w s (cursor_at at) v n e).0

  pub plain_there : {r : Refusal} {n : Cursor} → length s ≤ limit → at + w ≤ length s → plain_at w s (cursor_at at) ≡ refused r n → ⊥
  plain_there h l e = not_both (plain_is w s (cursor_at at) h l) e

-- ---- what stands at a place, with no cursor

module _ (w : ℕ) (s : List ℕ) (at : ℕ) where
  pub word_there : at + w ≤ length s → word_at w s at ≡ le_at s at w
  unfolding word_at
  word_there h = rw (le-ltb (length s) (at + w) h)

  pub word_none : length s < at + w → word_at w s at ≡ 0
  unfolding word_at
  word_none h = rw (lt-ltb (length s) (at + w) h)

  word_by : (b : Bool) → Bytes s → cond b 0 (le_at s at w) < 2 ^ (8 * w)
  word_by true k = pow_pos (8 * w)
  word_by false k = le_lt s at w k

  pub word_lt : Bytes s → word_at w s at < 2 ^ (8 * w)
  unfolding word_at
  word_lt k = word_by (ltb (length s) (at + w)) k
