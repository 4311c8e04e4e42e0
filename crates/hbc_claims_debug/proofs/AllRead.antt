-- A read that takes at least a byte needs no more steps than there are bytes.
use mathlib.Core.Path.{◌≡◌, refl, sym, ap, ◌∙◌}
use mathlib.Core.List.{List, [], ◌∷◌, ◌++◌}
use Prim.Native.Nat.{ℕ, zero, suc, ◌+◌, ◌≤◌, ◌<◌}
use native.Mathlib.Omega.{arith}
use lib.ListN.{length}
use Rattle.hbc_io.specs.Outcome.{Outcome, got, refused, cursor_at}
use Rattle.hbc_io.specs.declared.Cursor.{Cursor}
use Rattle.hbc_io.proofs.Reading.{then_got}
use Rattle.hbc_io_strings.specs.Strings.{prefixed}
use Rattle.hbc_io_strings.proofs.Strings.{prefix_moves}
use Rattle.hbc_rows.specs.Until.{until, after}
use Rattle.hbc_io_leb.specs.Leb.{leb_bytes}
use Rattle.hbc_io_leb.specs.Signed.{sleb_at}
use Rattle.hbc_io_leb.specs.Numbers.{Number, unsigned, signed, and_next, no_more}
use Rattle.hbc_io_leb.proofs.Lebs.{leb_got}
use Rattle.hbc_debug_parts.specs.Along.{along, onward}
use Rattle.hbc_rows.proofs.Untils.{until_more, until_stop}
use Rattle.hbc_io_leb.proofs.Moves.{sleb_moves}
use Rattle.hbc_rows.proofs.Far.{far}
use Rattle.hbc_debug_strings.specs.Strings.{strings_of, prefix_number, string_numbers}
use Rattle.hbc_debug_scopes.specs.Scopes.{Front, front_at, Scope, scope_at, scopes_of, front_numbers, name_number, numbers_at, scope_numbers}
use Rattle.hbc_debug_scopes.proofs.Fronts.{front_inside}
use Rattle.hbc_claims_debug.specs.AllRead.{AllRead}

-- a read that takes at least a byte, and ends in the input
abbrev Takes : {A : Type 0} → ℕ → (Cursor → Outcome A) → Type 0
Takes {A} m f = (c : Cursor) (v : A) (n : Cursor) → f c ≡ got v n → (c.at < n.at) × (n.at ≤ m)

module _ {A : Type 0} (m : ℕ) (f : Cursor → Outcome A) (takes : Takes m f) where
  ended : (j : ℕ) (c : Cursor) (o : Outcome A) → f c ≡ o → m ≤ c.at → until f j c ≡ []
  ended j c (got v n) e h = let t = takes c v n e in absurd (omega arith)
  ended j c (refused r n) e h = until_stop f j c r n e

  step : (k j : ℕ) (c : Cursor) (o : Outcome A) → f c ≡ o → m ≤ c.at + suc k
      → ((n : Cursor) → m ≤ n.at + k → until f (k + j) n ≡ until f k n)
      → until f (suc k + j) c ≡ until f (suc k) c
  step k j c (got v n) e h go =
      let t = takes c v n e in
      let x : suc k + j ≡ suc (k + j) = omega arith in
      ap (λ (i : ℕ). until f i c) x ∙ until_more f (k + j) c v n e ∙ ap (λ (vs : List A). v ∷ vs) (go n (omega arith)) ∙ sym (until_more f k c v n e)
  step k j c (refused r n) e h go = until_stop f (suc k + j) c r n e ∙ sym (until_stop f (suc k) c r n e)

  -- as many steps as there are bytes left are enough
  enough : (k j : ℕ) (c : Cursor) → m ≤ c.at + k → until f (k + j) c ≡ until f k c
  enough zero j c h = ended (zero + j) c (f c) refl (omega arith) ∙ sym (ended zero c (f c) refl (omega arith))
  enough (suc k) j c h = step k j c (f c) refl h (λ n l. enough k j n l)

  -- nor does what is met on the way grow, where nothing is met at the end
  module _ {B : Type 0} (g : Cursor → List B) (none : (c : Cursor) → m ≤ c.at → g c ≡ []) where
    along_ended : (j : ℕ) (c : Cursor) (o : Outcome A) → f c ≡ o → m ≤ c.at → along f g j c ≡ []
    unfolding along
    along_ended zero c o e h = refl
    along_ended (suc j) c (got v n) e h = let t = takes c v n e in absurd (omega arith)
    along_ended (suc j) c (refused r n) e h = ap (λ (p : Outcome A). g c ++ onward p (λ v i. along f g j i)) e ∙ ap (λ (xs : List B). xs ++ []) (none c h)

    along_step : (k j : ℕ) (c : Cursor) (o : Outcome A) → f c ≡ o → m ≤ c.at + suc k → ((n : Cursor) → m ≤ n.at + k → along f g (k + j) n ≡ along f g k n)
        → along f g (suc (k + j)) c ≡ along f g (suc k) c
    unfolding along
    along_step k j c (got v n) e h go =
        let t = takes c v n e in
        ap (λ (p : Outcome A). g c ++ onward p (λ v i. along f g (k + j) i)) e ∙ ap (λ (xs : List B). g c ++ xs) (go n (omega arith))
        ∙ sym (ap (λ (p : Outcome A). g c ++ onward p (λ v i. along f g k i)) e)
    along_step k j c (refused r n) e h go =
        ap (λ (p : Outcome A). g c ++ onward p (λ v i. along f g (k + j) i)) e ∙ sym (ap (λ (p : Outcome A). g c ++ onward p (λ v i. along f g k i)) e)

    along_enough : (k j : ℕ) (c : Cursor) → m ≤ c.at + k → along f g (k + j) c ≡ along f g k c
    along_enough zero j c h = along_ended (zero + j) c (f c) refl (omega arith) ∙ sym (along_ended zero c (f c) refl (omega arith))
    along_enough (suc k) j c h =
        let x : suc k + j ≡ suc (k + j) = omega arith in
        ap (λ (i : ℕ). along f g i c) x ∙ along_step k j c (f c) refl h (λ n l. along_enough k j n l)

-- at the end no number is read
none_left : (taken : List ℕ → Number) (s : List ℕ) (c : Cursor) (more : Cursor → List Number) → length s ≤ c.at → and_next taken (leb_bytes s c) more ≡ []
none_left taken s c more h = go (leb_bytes s c) refl
  where
    go : (o : Outcome (List ℕ)) → leb_bytes s c ≡ o → and_next taken o more ≡ []
    go (got bs n) e = let k = leb_got s c bs n e in absurd (omega (arith, k.some, k.room))
    go (refused r n) e = refl

no_prefix : (s : List ℕ) (c : Cursor) → length s ≤ c.at → prefix_number s c ≡ []
unfolding prefix_number
no_prefix s c h = none_left unsigned s c no_more h

no_front : (s : List ℕ) (c : Cursor) → length s ≤ c.at → front_numbers s c ≡ []
unfolding front_numbers
no_front s c h = none_left signed s c _ h

no_scope : (s : List ℕ) (c : Cursor) → length s ≤ c.at → numbers_at s c ≡ []
unfolding numbers_at
no_scope s c h = go (front_at s c) refl
  where
    names : Front → Cursor → List Number
    names x n = along (sleb_at s) (name_number s) x.count n

    go : (o : Outcome Front) → front_at s c ≡ o → front_numbers s c ++ onward o names ≡ []
    go (got x n) e = let i = front_inside s c x n e in absurd (omega (arith, i.on, i.room))
    go (refused r n) e = ap (λ (xs : List Number). xs ++ []) (no_front s c h)

scope_takes : (s : List ℕ) → Takes (length s) (scope_at s)
unfolding scope_at
scope_takes s c x n e =
    let made : Front → Cursor → Outcome Scope = λ h m. got (record { offset = c.at; front = h; names = until (sleb_at s) h.count m }) (after (sleb_at s) h.count m) in
    let w = then_got (front_at s c) made x n e in
    let i = front_inside s c w.0 w.1 w.2 in
    let z = far (length s) (sleb_at s) (sleb_moves s) w.0.count w.1 i.room in
    let g : got (record { offset = c.at; front = w.0; names = until (sleb_at s) w.0.count w.1 }) (after (sleb_at s) w.0.count w.1) ≡ got x n = w.3 in
    let y : after (sleb_at s) w.0.count w.1 ≡ n = cc in
    let p = ap (λ (d : Cursor). d.at) y in
    (omega (arith, z.low, i.on), omega (arith, z.high))

pub all_read : (s : List ℕ) (k : ℕ) → AllRead s k
unfolding strings_of scopes_of string_numbers scope_numbers
all_read s k = record {
  strings = enough (length s) (prefixed s) (prefix_moves s) (length s) k (cursor_at 0) (omega arith);
  scopes = enough (length s) (scope_at s) (scope_takes s) (length s) k (cursor_at 0) (omega arith);
  string_numbers_lem = along_enough (length s) (prefixed s) (prefix_moves s) (prefix_number s) (no_prefix s) (length s) k (cursor_at 0) (omega arith);
  scope_numbers_lem = along_enough (length s) (scope_at s) (scope_takes s) (numbers_at s) (no_scope s) (length s) k (cursor_at 0) (omega arith);
}
