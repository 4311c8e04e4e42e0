-- Where a pass over a series stands between two runs.
use Prim.Native.Nat.{ℕ, suc, ◌+◌, ◌-◌, ◌*◌, ◌/◌, ◌≤◌, ◌<◌, min}
use mathlib.Core.Path.{◌≡◌, refl, sym, ◌∙◌}
use mathlib.Core.List.{List}
use native.Mathlib.Omega.{arith}
use native.Mathlib.Nat.{zero-mul, add-zero, mul-zero, mul_comm, mul-one, mul-add, div-mul-le_self, div-lt_iff_lt-mul, lt-mul-div-succ, mul-le-mul, pos_of_ne-zero, lt_of_not-le}
use native.Mathlib.Decide.{dec_le}
use lib.ListN.{length}
use Rattle.hbc_bits.specs.Bits.{le_at, field}
use Rattle.hbc_io.specs.Outcome.{got, refused, cursor_at, refusal, refusal_at, limit}
use Rattle.hbc_io.specs.declared.Cursor.{Cursor}
use Rattle.hbc_io.proofs.Reading.{not_both}
use Rattle.hbc_io.specs.Answer.{gives, refuses}
use Rattle.hbc_rows.specs.Rows.{filled}
use Rattle.hbc_buffer_literal.specs.Literal.{width_of, literal_of, kind_of}
use Rattle.hbc_buffer_literal.proofs.Laws.{width_most, kind_any}
use Rattle.hbc_buffer.specs.Series.{run_of, tag_at, after, used_of, value_at, kind_at, payload_at}
use Rattle.hbc_buffer.specs.Private.{byte_at, length_of, filled_from, kinds_from, payloads_from, Whole, Passed, Known}
use Rattle.hbc_buffer.proofs.Fills.{from_filled}
use Rattle.hbc_buffer.proofs.Tags.{On, tag_on, tag_there, tag_cut, short_tag, short_length, none_width, head_here, head_skip, head_no}
use Rattle.hbc_buffer.proofs.Runs.{Ready, ready_head, after_none, refused_stays, run_past, run_cut, run_value}

pub passed_first : (s : List ℕ) (from count : ℕ) → from ≤ length s → Passed s from count 0 from
unfolding after
passed_first s from count h =
    record {
      run = run_of 0 0;
      back = cursor_at from;
      is = refl;
      spent = λ z. refl;
      tags = length s;
      enough = omega arith;
      skip = refl;
      here = λ z. refl;
      below = omega arith;
      up = omega arith;
      within = h;
    }

-- a width that a product is above something with
pub positive : (m w r : ℕ) → r < m * w → 0 < w
positive m w r h = pos_of_ne-zero (λ e. let z : m * w ≡ 0 = rw (e, mul-zero) in omega (arith, z, h))

pub quotient : (m w r : ℕ) → r < m * w → r / w < m
quotient m w r h = (div-lt_iff_lt-mul {k = w} {x = r} {y = m} (positive m w r h)).1 h

whole_part : (r w : ℕ) → 0 < w → r < (r / w) * w + w
whole_part r w h = let e : w * (r / w + 1) ≡ (r / w) * w + w = rw (mul-add, mul-one, mul_comm w (r / w)) in rw e at (lt-mul-div-succ r h)

module _ {s : List ℕ} {from count done at : ℕ} (g : Passed s from count done at) (some : done < count) where
  -- no tag is left
  none_after : (m : Cursor) → tag_at s (cursor_at at) ≡ refused (refusal 3) m → (n : Cursor) × (after count s (cursor_at from) ≡ refused (refusal_at 3 done) n)
  none_after m e =
      let h = head_no g.tags s (cursor_at at) m e in
      (h.0, refused_stays (suc done) s (cursor_at from) (after_none done s (cursor_at from) g.is (g.spent some) (g.skip ∙ h.1)) count (omega arith))

  pub passed_none : (m : Cursor) → tag_at s (cursor_at at) ≡ refused (refusal 3) m → refuses (refusal_at 3 done) ≡ used_of from (after count s (cursor_at from))
  passed_none m e = rw (none_after m e).1

  pub whole_none : Whole count s (cursor_at from) → (m : Cursor) → tag_at s (cursor_at at) ≡ refused (refusal 3) m → ⊥
  whole_none v m e = not_both v.is (none_after m e).1

  tag_or : {b h : ℕ} → length s ≤ limit → b ≡ byte_at s at → h ≡ field 7 1 b → Whole count s (cursor_at from) → Dec (at + 1 + h ≤ length s) → at + 1 + h ≤ length s
  tag_or short first high v (yes q) = q
  tag_or short first high v (no q) =
      let k = tag_cut s at short first refl high g.within (lt_of_not-le q) in
      absurd (whole_none v k.0 k.1)

  -- a series that is whole has its next tag
  pub whole_tag : {b h : ℕ} → length s ≤ limit → b ≡ byte_at s at → h ≡ field 7 1 b → Whole count s (cursor_at from) → at + 1 + h ≤ length s
  whole_tag {b} {h} short first high v = tag_or short first high v (dec_le (at + 1 + h) (length s))

  -- and what it says is what its bytes say
  pub whole_there : {b t h y n : ℕ} → length s ≤ limit → b ≡ byte_at s at → t ≡ field 4 3 b → h ≡ field 7 1 b → y ≡ byte_at s (at + 1) → n ≡ length_of b y
      → Whole count s (cursor_at from) → tag_at s (cursor_at at) ≡ got (run_of t n) (cursor_at (at + 1 + h))
  whole_there short first tag high second len v = tag_there s at short first tag high second len (whole_tag short first high v)

  module _ (short : length s ≤ limit) {t l f : ℕ} (e : tag_at s (cursor_at at) ≡ got (run_of t l) (cursor_at f)) (m : ℕ) (least : m ≡ min l (count - done)) where
    abbrev w : ℕ
    w = width_of t

    on : On s (cursor_at at) (cursor_at f)
    on = tag_on s (cursor_at at) (run_of t l) (cursor_at f) e

    tagged : 0 < g.tags
    tagged = omega (arith, g.enough, on.from, on.within)

    ready : (l ≡ 0 → ⊥) → Ready done s (cursor_at from) (run_of t l) (cursor_at f)
    ready h = ready_head g.is (g.spent some) (g.skip ∙ head_here g.tags s (cursor_at at) tagged e h)

    -- the run is cut
    cut_after : length s - f < m * w → after count s (cursor_at from) ≡ refused (refusal_at 3 (done + (length s - f) / w)) (cursor_at (f + (length s - f) / w * w))
    cut_after h =
        let p = positive m w (length s - f) h in
        let i = (length s - f) / w in
        let a : i * w ≤ length s - f = div-mul-le_self (length s - f) w in
        let b : i < m = quotient m w (length s - f) h in
        let d : length s - f < i * w + w = whole_part (length s - f) w p in
        let x = on.within in
        let z : l ≡ 0 → ⊥ = λ q. omega (arith, least, b, q) in
        run_cut (ready z) short i count (omega (arith, least, b)) (omega (arith, a, x)) (omega (arith, a, d, x)) (omega (arith, least, b, some))

    pub passed_cut : length s - f < m * w → refuses (refusal_at 3 (done + (length s - f) / w)) ≡ used_of from (after count s (cursor_at from))
    passed_cut h = rw (cut_after h)

    -- an empty tag
    pub skipped : l ≡ 0 → Passed s from count done f
    skipped z =
        let x = on.from in
        record {
          run = g.run;
          back = g.back;
          is = g.is;
          spent = g.spent;
          tags = g.tags - 1;
          enough = omega (arith, g.enough, x);
          skip = g.skip ∙ head_skip g.tags s (cursor_at at) tagged e z;
          here = λ q. absurd (q some);
          below = g.below;
          up = omega (arith, g.up, x);
          within = on.within;
        }

    passed_run : (l ≡ 0 → ⊥) → m * w ≤ length s - f → Passed s from count (done + m) (f + m * w)
    passed_run z h =
        let x = on.from in
        let y = on.within in
        record {
          run = run_of t (l - m);
          back = cursor_at (f + m * w);
          is = run_past (ready z) short m (omega (arith, least, z, some)) (omega (arith, least)) (omega (arith, h, y));
          spent = λ q. omega (arith, least, q);
          tags = length s;
          enough = omega arith;
          skip = refl;
          here = λ q. refl;
          below = omega (arith, least, some);
          up = omega (arith, g.up, x);
          within = omega (arith, h, y);
        }

    passed_by : Dec (l ≤ 0) → m * w ≤ length s - f → Passed s from count (done + m) (f + m * w)
    passed_by (no z) h = passed_run (λ q. z (omega (arith, q))) h
    passed_by (yes y) h =
        let z : l ≡ 0 = omega (arith, y) in
        let q : m ≡ 0 = omega (arith, least, z) in
        let a : done + m ≡ done = omega (arith, q) in
        let b : f + m * w ≡ f = rw (q, zero-mul) (add-zero f) in
        rw (a, b) (skipped z)

    -- a run that is there
    pub passed_more : m * w ≤ length s - f → Passed s from count (done + m) (f + m * w)
    passed_more = passed_by (dec_le l 0)

    -- value i of it
    pub passed_value : (k : ℕ → ℕ → ℕ) → m * w ≤ length s - f → (i : ℕ) → i < m → k t (le_at s (f + i * w) w) ≡ value_at k s (cursor_at from) (done + i)
    passed_value k h i j =
        let y = on.within in
        let z : l ≡ 0 → ⊥ = λ q. omega (arith, least, j, q) in
        let q : suc i * w ≤ m * w = mul-le-mul {n₁ = suc i} {m₁ = w} {n₂ = m} {m₂ = w} j (omega arith) in
        sym (run_value (ready z) short k i (omega (arith, least, j)) (omega (arith, h, y, q)))

    room_or : Whole count s (cursor_at from) → Dec (m * w ≤ length s - f) → m * w ≤ length s - f
    room_or v (yes h) = h
    room_or v (no h) = absurd (not_both v.is (cut_after (lt_of_not-le h)))

    -- a series that is whole has room for it
    pub whole_room : Whole count s (cursor_at from) → m * w ≤ length s - f
    whole_room v = room_or v (dec_le (m * w) (length s - f))

    -- the words of the run are the next of each table
    pub kinds_more : {k : ℕ} {a : List ℕ} (a₀ : List ℕ) → m * w ≤ length s - f → k ≡ kind_of (literal_of t 0) → a ≡ filled (kind_at s (cursor_at from)) done a₀
        → kinds_from k done m a ≡ filled (kind_at s (cursor_at from)) (done + m) a₀
    kinds_more {k} {a} a₀ h c b =
        rw b
        (from_filled done m (λ _. k) (kind_at s (cursor_at from)) a₀
        (λ i l. c ∙ kind_any t 0 (le_at s (f + i * w) w) ∙ passed_value (λ t v. kind_of (literal_of t v)) h i l))

    pub payloads_more : {a : List ℕ} (a₀ : List ℕ) → m * w ≤ length s - f → a ≡ filled (payload_at s (cursor_at from)) done a₀
        → payloads_from s f w done m a ≡ filled (payload_at s (cursor_at from)) (done + m) a₀
    payloads_more {a} a₀ h b =
        rw b (from_filled done m (λ i. le_at s (f + i * w) w) (payload_at s (cursor_at from)) a₀ (λ i l. passed_value (λ t v. v) h i l))

    -- what omega wants of a turn
    pub turn_on : at < f
    turn_on = on.from

    pub turn_within : f ≤ length s
    turn_within = on.within

-- all values are read
pub passed_all : {s : List ℕ} {from count done at : ℕ} → Passed s from count done at → done ≡ count → gives (at - from) ≡ used_of from (after count s (cursor_at from))
passed_all g e = rw (← e, g.is, g.here (λ z. omega (arith, e, z)))

-- ---- the same tag again

pub known_first : (count : ℕ) → Known count 0 256 0 0
known_first count = record { is = λ some low. absurd (omega (arith, low)); small = omega arith; narrow = omega arith }

pub known_next : {count done : ℕ} (b y : ℕ) {l n w : ℕ} → done < count → count < 4294967296 → l ≡ length_of b y → n ≡ min l (count - done) → w ≡ width_of (field 4 3 b) → Known count (done + n) b n w
known_next b y {l} {n} {w} some most len least wide =
    record {
      is = λ more low. let e = short_length b y len low in (omega (arith, e, least, more), wide);
      small = omega (arith, least, most);
      narrow = rw wide (width_most (field 4 3 b));
    }

pub known_on : {count done last size wide : ℕ} (d : ℕ) → Known count done last size wide → done < count → Known count d last size wide
known_on d k some = record { is = λ more low. k.is some low; small = k.small; narrow = k.narrow }

module _ {s : List ℕ} {from count done at : ℕ} (g : Passed s from count done at) (some : done < count) (short : length s ≤ limit)
    {last size wide : ℕ} (k : Known count done last size wide) {b : ℕ} (first : b ≡ byte_at s at) (spare : ℕ)
    (a : (b ≡ last) × (b < 128) × (size ≤ count - done) × (spare + (1 + size * wide) ≤ length s - at)) where
  known : (size ≡ field 0 4 b) × (wide ≡ width_of (field 4 3 b))
  known = rw a.0 (k.is some (rw (← a.0) a.1))

  there : tag_at s (cursor_at at) ≡ got (run_of (field 4 3 b) size) (cursor_at (at + 1))
  there = rw known.0 (short_tag s at short first a.1 (omega (arith, a.3, g.within)))

  least : size ≡ min size (count - done)
  least = omega (arith, a.2)

  room : size * width_of (field 4 3 b) ≤ length s - (at + 1)
  room = rw (← known.1) (omega (arith, a.3))

  pub again_more : Passed s from count (done + size) (at + (1 + size * wide))
  again_more =
      let e : at + (1 + size * wide) ≡ at + 1 + size * wide = omega arith in
      rw (e, known.1) (passed_more g some short there size least room)

  pub again_kinds : {t v : ℕ} {x : List ℕ} (x₀ : List ℕ) → t ≡ field 4 3 b → v ≡ kind_of (literal_of t 0) → x ≡ filled (kind_at s (cursor_at from)) done x₀
      → kinds_from v done size x ≡ filled (kind_at s (cursor_at from)) (done + size) x₀
  again_kinds x₀ e f h = kinds_more g some short there size least x₀ room (rw e at f) h

  pub again_payloads : {x : List ℕ} (x₀ : List ℕ) → x ≡ filled (payload_at s (cursor_at from)) done x₀
      → payloads_from s (at + 1) wide done size x ≡ filled (payload_at s (cursor_at from)) (done + size) x₀
  again_payloads x₀ h = rw known.1 (payloads_more g some short there size least x₀ room h)

-- ---- tags without bytes

pub within_tag : (at h : ℕ) {n : ℕ} → at + 1 + h ≤ n → at < n
within_tag at h e = omega (arith, e)

none_le : (s : List ℕ) (p w : ℕ) → w ≡ 0 → 0 ≡ le_at s p w
unfolding le_at
none_le s p w e = rw e

module _ {s : List ℕ} {from count done at : ℕ} (g : Passed s from count done at) (some : done < count) (short : length s ≤ limit)
    {b : ℕ} (first : b ≡ byte_at s at) (low : b < 48) (inside : at < length s) {l m : ℕ} (len : l ≡ field 0 4 b) (fewer : m ≡ min l (count - done)) where
  tagged_none : tag_at s (cursor_at at) ≡ got (run_of (field 4 3 b) l) (cursor_at (at + 1))
  tagged_none = rw len (short_tag s at short first (omega (arith, low)) (omega (arith, inside)))

  room_none : m * width_of (field 4 3 b) ≤ length s - (at + 1)
  room_none = rw (none_width b low, mul-zero) (omega arith)

  pub none_more : Passed s from count (done + m) (at + 1)
  none_more =
      let e : at + 1 + m * width_of (field 4 3 b) ≡ at + 1 = rw (none_width b low, mul-zero) (add-zero (at + 1)) in
      rw e at (passed_more g some short tagged_none m fewer room_none)

  pub none_kinds : {t v : ℕ} {x : List ℕ} (x₀ : List ℕ) → t ≡ field 4 3 b → v ≡ kind_of (literal_of t 0) → x ≡ filled (kind_at s (cursor_at from)) done x₀
      → kinds_from v done m x ≡ filled (kind_at s (cursor_at from)) (done + m) x₀
  none_kinds x₀ e f h = kinds_more g some short tagged_none m fewer x₀ room_none (rw e at f) h

  pub none_payloads : {x : List ℕ} (x₀ : List ℕ) → x ≡ filled (payload_at s (cursor_at from)) done x₀
      → filled_from done m (λ _. 0) x ≡ filled (payload_at s (cursor_at from)) (done + m) x₀
  none_payloads x₀ h =
      rw h
      (from_filled done m (λ _. 0) (payload_at s (cursor_at from)) x₀
      (λ i j. none_le s (at + 1 + i * width_of (field 4 3 b)) (width_of (field 4 3 b)) (none_width b low) ∙ passed_value g some short tagged_none m fewer (λ t v. v) room_none i j))
