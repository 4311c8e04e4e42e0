-- How a pass goes on: past empty tags, and past runs that are the last one again.
use Prim.Native.Nat.{ℕ, suc, ◌+◌, ◌-◌, ◌*◌, ◌≤◌, ◌<◌}
use mathlib.Core.Path.{◌≡◌, refl, sym, ap, ◌∙◌}
use mathlib.Core.List.{List}
use native.Mathlib.Omega.{arith}
use native.Mathlib.Decide.{dec_lt, le_ind}
use lib.ListN.{length}
use Rattle.hbc_bits.specs.Bits.{field}
use Rattle.hbc_io.specs.Outcome.{limit}
use Rattle.hbc_io.specs.declared.Cursor.{Cursor}
use Rattle.hbc_buffer_literal.specs.Literal.{literal_of, kind_of}
use Rattle.hbc_buffer.specs.Series.{kind_at, payload_at}
use Rattle.hbc_buffer.specs.Private.{byte_at, kinds_from, payloads_from, Passed, Known, Empties, Goes, Writes}
use Rattle.hbc_buffer.proofs.Tags.{short_tag}
use Rattle.hbc_buffer.proofs.Passes.{skipped, again_more, again_kinds, again_payloads}

-- ---- empty tags

pub empties_first : {s : List ℕ} {at : ℕ} → at ≤ length s → Empties s at at
empties_first h = record { all = λ i l k. absurd (omega (arith, l, k)); up = omega arith; within = h }

empty_by : {s : List ℕ} {at p b i : ℕ} → Empties s at p → b ≡ byte_at s p → (b < 128) × (field 0 4 b ≡ 0) → at ≤ i → i < p + 1 → Dec (i < p)
    → (byte_at s i < 128) × (field 0 4 (byte_at s i) ≡ 0)
empty_by {s} {at} {p} {b} {i} e f z l k (yes q) = e.all i l q
empty_by {s} {at} {p} {b} {i} e f z l k (no q) = let h : i ≡ p = omega (arith, k, q) in rw (h, ← f) z

-- one more
pub empties_on : {s : List ℕ} {at p b : ℕ} → Empties s at p → p < length s → b ≡ byte_at s p → (b < 128) × (field 0 4 b ≡ 0) → Empties s at (p + 1)
empties_on {s} {at} {p} e h f z = record { all = λ i l k. empty_by e f z l k (dec_lt i p); up = omega (arith, e.up); within = omega (arith, h) }

module _ {s : List ℕ} {from count done : ℕ} (some : done < count) (short : length s ≤ limit) where
  empty_more : {at : ℕ} → Passed s from count done at → (byte_at s at < 128) × (field 0 4 (byte_at s at) ≡ 0) → at < length s → Passed s from count done (at + 1)
  empty_more {at} g z h = skipped g some short (short_tag s at short refl z.0 (omega (arith, h))) _ refl z.1

  next_by : {j : ℕ} → Passed s from count done (j + 1) → Passed s from count done (suc j)
  next_by {j} g = let e : j + 1 ≡ suc j = omega arith in rw e at g

  -- past all of them
  empties_more : {at next : ℕ} → Passed s from count done at → Empties s at next → Passed s from count done next
  empties_more {at} {next} g e =
      le_ind (λ (j : ℕ). j ≤ next → Passed s from count done j) (λ _. g)
      (λ j l f h. next_by (empty_more (f (omega (arith, h))) (e.all j l (omega (arith, h))) (omega (arith, h, e.within))))
      next e.up (omega arith)

  -- the one at hand, and all that follow it
  pub empties_from : {at next b : ℕ} → Passed s from count done at → b ≡ byte_at s at → (b < 128) × (field 0 4 b ≡ 0) → at < length s → Empties s (at + 1) next
      → Passed s from count done next
  empties_from g first z h e = empties_more (empty_more g (rw (← first) z) h) e

-- ---- runs that are the last one again

pub goes_first : {s : List ℕ} (count done : ℕ) {at : ℕ} → at ≤ length s → Goes s count done at done at
goes_first count done h = record { on = λ from g. g; up = omega arith; within = h }

pub writes_first : (g : List ℕ → Cursor → ℕ → ℕ) {s : List ℕ} (count done at : ℕ) (t : List ℕ) → Writes g s count done at done t t
writes_first g count done at t = record { on = λ from t₀ p e. e }

pub goes_then : {s : List ℕ} {count d a d₁ a₁ d₂ a₂ : ℕ} → Goes s count d a d₁ a₁ → Goes s count d₁ a₁ d₂ a₂ → Goes s count d a d₂ a₂
goes_then p q = record { on = λ from g. q.on from (p.on from g); up = omega (arith, p.up, q.up); within = q.within }

pub writes_then : {g : List ℕ → Cursor → ℕ → ℕ} {s : List ℕ} {count d a d₁ a₁ d₂ : ℕ} {t t₁ t₂ : List ℕ} → Goes s count d a d₁ a₁ → Writes g s count d a d₁ t t₁
    → Writes g s count d₁ a₁ d₂ t₁ t₂ → Writes g s count d a d₂ t t₂
writes_then p v w = record { on = λ from t₀ g e. w.on from t₀ (p.on from g) (v.on from t₀ g e) }

module _ {s : List ℕ} {count d a done at : ℕ} (g : Goes s count d a done at) (some : done < count) (short : length s ≤ limit)
    {last size wide : ℕ} (k : Known count done last size wide) {b : ℕ} (first : b ≡ byte_at s at) (spare : ℕ)
    (z : (b ≡ last) × (b < 128) × (size ≤ count - done) × (spare + (1 + size * wide) ≤ length s - at)) where
  pub goes_again : Goes s count d a (done + size) (at + (1 + size * wide))
  goes_again =
      record {
        on = λ from p. again_more (g.on from p) some short k first spare z;
        up = omega (arith, g.up);
        within = omega (arith, g.within, z.3);
      }

  pub kinds_again : {v : ℕ} {t₀ t t' : List ℕ} → v ≡ kind_of (literal_of (field 4 3 last) 0) → t' ≡ kinds_from v done size t → Writes kind_at s count d a done t₀ t
      → Writes kind_at s count d a (done + size) t₀ t'
  kinds_again e f w =
      record { on = λ from x p h. f ∙ again_kinds (g.on from p) some short k first spare z x (ap (field 4 3) (sym z.0)) e (w.on from x p h) }

  pub payloads_again : {t₀ t t' : List ℕ} → t' ≡ payloads_from s (at + 1) wide done size t → Writes payload_at s count d a done t₀ t
      → Writes payload_at s count d a (done + size) t₀ t'
  payloads_again f w = record { on = λ from x p h. f ∙ again_payloads (g.on from p) some short k first spare z x (w.on from x p h) }

-- the first of them, from where a pass stands
module _ {s : List ℕ} {count done at : ℕ} (some : done < count) (short : length s ≤ limit) {b size wide : ℕ} (k : Known count done b size wide)
    (first : b ≡ byte_at s at) (low : b < 128) (fits : size ≤ count - done) (room : 8 + (1 + size * wide) ≤ length s - at) where
  stand : Goes s count done at done at
  stand = goes_first count done (omega (arith, room))

  pub goes_once : Goes s count done at (done + size) (at + (1 + size * wide))
  goes_once = goes_again stand some short k first 8 (refl, low, fits, room)

  pub kinds_once : {v : ℕ} {t t' : List ℕ} → v ≡ kind_of (literal_of (field 4 3 b) 0) → t' ≡ kinds_from v done size t → Writes kind_at s count done at (done + size) t t'
  kinds_once {v} {t} e f = kinds_again stand some short k first 8 (refl, low, fits, room) e f (writes_first kind_at count done at t)

  pub payloads_once : {t t' : List ℕ} → t' ≡ payloads_from s (at + 1) wide done size t → Writes payload_at s count done at (done + size) t t'
  payloads_once {t} f = payloads_again stand some short k first 8 (refl, low, fits, room) f (writes_first payload_at count done at t)
