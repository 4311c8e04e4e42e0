-- Tags and the next one that has values, case by case.
use Prim.Native.Nat.{ℕ, zero, suc, ◌+◌, ◌-◌, ◌*◌, ◌≤◌, ◌<◌}
use mathlib.Core.Path.{◌≡◌, refl, sym, ap, ◌∙◌}
use mathlib.Core.Bool.{Bool, true, false, cond}
use mathlib.Core.List.{List}
use native.Mathlib.Omega.{arith}
use native.Mathlib.Decide.{dec_lt}
use borrow.Author.Tests.{eq-eqb, ne_eqb, eqb-true, eqb-false, le-ltb, lt-ltb}
use lib.ListN.{length}
use lib.Dec.{eqb}
use Rattle.hbc_bits.specs.Bits.{field}
use Rattle.hbc_bits.proofs.Laws.{field_lt, field_past}
use Rattle.hbc_io.specs.Outcome.{got, refused, valued, cursor_at, refusal, limit}
use Rattle.hbc_io.specs.Plain.{plain_at}
use Rattle.hbc_io.specs.declared.Cursor.{Cursor}
use Rattle.hbc_io.specs.declared.Refusal.{Refusal}
use Rattle.hbc_io.proofs.Reading.{then_got, valued_got}
use Rattle.hbc_io.proofs.Plains.{plain_got, plain_is}
use Rattle.hbc_buffer_literal.specs.Literal.{width_of}
use Rattle.hbc_buffer_literal.proofs.Laws.{width_none}
use Rattle.hbc_buffer.specs.Private.{byte_at, length_of}
use Rattle.hbc_buffer.specs.Series.{Run, run_of, length_at, tag_at, head_at}

-- ---- a tag, from its bytes

-- a number whose bytes are cut
pub plain_cut : (w : ℕ) (s : List ℕ) (at : ℕ) → length s ≤ limit → at ≤ length s → length s - at < w → plain_at w s (cursor_at at) ≡ refused (refusal 3) (cursor_at at)
unfolding plain_at
plain_cut w s at h l k = simp (le-ltb _ _ h, le-ltb (length s) at l, lt-ltb (length s - at) w k)

pub byte_is : (s : List ℕ) (at : ℕ) → length s ≤ limit → at < length s → plain_at 1 s (cursor_at at) ≡ got (byte_at s at) (cursor_at (at + 1))
unfolding byte_at
byte_is s at h l = let e = plain_is 1 s (cursor_at at) h (omega arith) in rw e

inside-by : (s : List ℕ) (at : ℕ) {b : ℕ} → length s ≤ limit → at ≤ length s → b ≡ byte_at s at → 0 < b → Dec (at < length s) → at < length s
unfolding byte_at
inside-by s at h l e k (yes z) = z
inside-by s at h l e k (no z) = let q = rw (plain_cut 1 s at h l (omega arith)) at e in absurd (omega (arith, q, k))

-- what is not 0 is there
pub byte_inside : (s : List ℕ) (at : ℕ) {b : ℕ} → length s ≤ limit → at ≤ length s → b ≡ byte_at s at → 0 < b → at < length s
byte_inside s at h l e k = inside-by s at h l e k (dec_lt at (length s))

module _ (s : List ℕ) (at : ℕ) (short : length s ≤ limit) {b t h : ℕ} (first : b ≡ byte_at s at) (tag : t ≡ field 4 3 b) (high : h ≡ field 7 1 b) where
  there_by : (x : Bool) {y n : ℕ} → eqb (field 7 1 b) 0 ≡ x → y ≡ byte_at s (at + 1) → n ≡ length_of b y → at + 1 + h ≤ length s → tag_at s (cursor_at at) ≡ got (run_of t n) (cursor_at (at + 1 + h))
  unfolding tag_at length_of
  there_by true {y} {n} e second len l =
      let z : h ≡ 0 = high ∙ eqb-true (field 7 1 b) 0 e in
      let k : at + 1 + h ≡ at + 1 = omega arith in
      let q : n ≡ field 0 4 b = rw e at len in
      rw (byte_is s at short (omega arith), ← first, e, tag, k, q)
  there_by false {y} {n} e second len l =
      let o : h ≡ 1 = omega (arith, high, field_lt 1 7 1 b (omega arith), eqb-false (field 7 1 b) 0 e) in
      let k : at + 1 + h ≡ at + 1 + 1 = omega arith in
      let q : n ≡ field 0 4 b * 256 + y = rw e at len in
      rw (byte_is s at short (omega arith), ← first, e, byte_is s (at + 1) short (omega arith), ← second, tag, k, q)

  -- its bytes are there
  pub tag_there : {y n : ℕ} → y ≡ byte_at s (at + 1) → n ≡ length_of b y → at + 1 + h ≤ length s → tag_at s (cursor_at at) ≡ got (run_of t n) (cursor_at (at + 1 + h))
  tag_there e f h = there_by (eqb (field 7 1 b) 0) refl e f h

  cut_by : at ≤ length s → length s < at + 1 + h → Dec (at < length s) → (m : Cursor) × (tag_at s (cursor_at at) ≡ refused (refusal 3) m)
  unfolding tag_at
  cut_by l k (no z) = (cursor_at at, rw (plain_cut 1 s at short l (omega arith)))
  cut_by l k (yes z) =
      let o : field 7 1 b ≡ 0 → ⊥ = λ q. omega (arith, high, q, k, z) in
      let r : length s - (at + 1) < 1 = omega (arith, high, field_lt 1 7 1 b (omega arith), k, z) in
      (cursor_at (at + 1), rw (byte_is s at short z, ← first, ne_eqb _ _ o, plain_cut 1 s (at + 1) short (omega (arith, z)) r))

  -- they are cut
  pub tag_cut : at ≤ length s → length s < at + 1 + h → (m : Cursor) × (tag_at s (cursor_at at) ≡ refused (refusal 3) m)
  tag_cut l k = cut_by l k (dec_lt at (length s))

-- ---- a tag of one byte

pub nibble_zero : (b : ℕ) → b ≡ 0 → field 0 4 b ≡ 0
unfolding field
nibble_zero b e = omega (arith, e)

module _ (s : List ℕ) (at : ℕ) (short : length s ≤ limit) {b : ℕ} (first : b ≡ byte_at s at) (low : b < 128) where
  clear : 0 ≡ field 7 1 b
  clear = field_past 7 7 1 b low (omega arith)

  nibble : (y : ℕ) → field 0 4 b ≡ length_of b y
  unfolding length_of
  nibble y = rw (eq-eqb _ _ (sym clear))

  pub short_tag : at + 1 ≤ length s → tag_at s (cursor_at at) ≡ got (run_of (field 4 3 b) (field 0 4 b)) (cursor_at (at + 1))
  short_tag l =
      let k : at + 1 + 0 ≡ at + 1 = omega arith in
      rw k at (tag_there s at short first refl clear refl (nibble (byte_at s (at + 1))) (omega (arith, l)))

pub short_length : (b y : ℕ) {n : ℕ} → n ≡ length_of b y → b < 128 → n ≡ field 0 4 b
unfolding length_of
short_length b y e low = rw (eq-eqb _ _ (sym (field_past 7 7 1 b low (omega arith)))) at e

-- ---- widths, a nibble for each tag

width_at : (t : ℕ) → t < 8 → field (4 * t) 4 1092911104 ≡ width_of t
unfolding field width_of
width_at zero h = refl
width_at (suc zero) h = refl
width_at (suc (suc zero)) h = refl
width_at (suc (suc (suc zero))) h = refl
width_at (suc (suc (suc (suc zero)))) h = refl
width_at (suc (suc (suc (suc (suc zero))))) h = refl
width_at (suc (suc (suc (suc (suc (suc zero)))))) h = refl
width_at (suc (suc (suc (suc (suc (suc (suc zero))))))) h = refl
width_at (suc (suc (suc (suc (suc (suc (suc (suc t)))))))) h = absurd (omega arith)

pub width_nibble : (b : ℕ) {t r : ℕ} → t ≡ field 4 3 b → r ≡ field (4 * t) 4 1092911104 → r ≡ width_of (field 4 3 b)
width_nibble b e f = f ∙ width_at _ (rw e (field_lt 3 4 3 b (omega arith))) ∙ ap width_of e

three : (b : ℕ) → b < 48 → field 4 3 b < 3
unfolding field
three b h = omega (arith, h)

-- null, true and false have no bytes
pub none_width : (b : ℕ) → b < 48 → width_of (field 4 3 b) ≡ 0
none_width b h =
    let t = three b h in
    width_none (λ e. omega (arith, t, e)) (λ e. omega (arith, t, e)) (λ e. omega (arith, t, e)) (λ e. omega (arith, t, e)) (λ e. omega (arith, t, e))

-- ---- the next tag with values

pub head_here : (f : ℕ) (s : List ℕ) (c : Cursor) {t : Run} {n : Cursor} → 0 < f → tag_at s c ≡ got t n → (t.left ≡ 0 → ⊥) → head_at f s c ≡ got t n
unfolding head_at
head_here zero s c h e k = absurd (omega arith)
head_here (suc f) s c h e k = rw (e, ne_eqb _ _ k)

pub head_skip : (f : ℕ) (s : List ℕ) (c : Cursor) {t : Run} {n : Cursor} → 0 < f → tag_at s c ≡ got t n → t.left ≡ 0 → head_at f s c ≡ head_at (f - 1) s n
unfolding head_at
head_skip zero s c h e k = absurd (omega arith)
head_skip (suc f) s c {t} {n} h e k =
    let m : suc f - 1 ≡ f = omega arith in
    -- a tag of no values is followed by what stands behind it
    let skips : cond (eqb t.left 0) (head_at f s n) (got t n) ≡ head_at f s n = rw (eq-eqb _ _ k) in
    rw (m, e) skips

pub head_none : (f : ℕ) (s : List ℕ) (c : Cursor) {r : Refusal} {n : Cursor} → 0 < f → tag_at s c ≡ refused r n → head_at f s c ≡ refused r n
unfolding head_at
head_none zero s c h e = absurd (omega arith)
head_none (suc f) s c h e = rw e

pub head_out : (f : ℕ) (s : List ℕ) (c : Cursor) → f ≡ 0 → head_at f s c ≡ refused (refusal 3) c
unfolding head_at
head_out f s c e = rw e

-- where no tag is, none has values
pub head_no : (f : ℕ) (s : List ℕ) (c m : Cursor) → tag_at s c ≡ refused (refusal 3) m → (n : Cursor) × (head_at f s c ≡ refused (refusal 3) n)
head_no zero s c m e = (c, head_out zero s c refl)
head_no (suc f) s c m e = (m, head_none (suc f) s c (omega arith) e)

-- ---- where it stands

-- the cursor has gone on, and not past the end
pub record On (s : List ℕ) (c n : Cursor) : Type 0 where
  pub from : c.at < n.at
  pub within : n.at ≤ length s

byte_on : (s : List ℕ) (c : Cursor) (v : ℕ) (n : Cursor) → plain_at 1 s c ≡ got v n → On s c n
byte_on s c v n e =
    let t = (plain_got 1 s c v n e).1 in
    rw t.next (record { from = omega arith; within = t.room })

length_on : (s : List ℕ) (b : ℕ) (x : Bool) (c m n : Cursor) (v : ℕ) → On s c m
    → cond x (got (field 0 4 b) m) (valued (λ (low : ℕ). field 0 4 b * 256 + low) (plain_at 1 s m)) ≡ got v n → On s c n
length_on s b true c m n v o e = let p : m ≡ n = cc in rw p at o
length_on s b false c m n v o e =
    let q = valued_got (λ (low : ℕ). field 0 4 b * 256 + low) (plain_at 1 s m) v n e in
    let p = byte_on s m q.0 n q.1 in
    record { from = omega (arith, o.from, p.from); within = p.within }

pub tag_on : (s : List ℕ) (c : Cursor) (t : Run) (n : Cursor) → tag_at s c ≡ got t n → On s c n
unfolding tag_at
tag_on s c t n e =
    let p = then_got (plain_at 1 s c) (λ b m. valued (run_of (field 4 3 b)) (length_at s b m)) t n e in
    let q = valued_got (run_of (field 4 3 p.0)) (length_at s p.0 p.1) t n p.3 in
    length_on s p.0 (eqb (field 7 1 p.0) 0) c p.1 n q.0 (byte_on s c p.0 p.1 p.2) q.1
