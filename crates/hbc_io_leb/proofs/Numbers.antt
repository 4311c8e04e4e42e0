-- From the groups that were read to the number they stand for.
use mathlib.Core.Path.{◌≡◌, sym, ap, ◌∙◌}
use mathlib.Core.List.{List}
use mathlib.Core.Bool.{Bool}
use Prim.Native.Nat.{ℕ, ◌+◌, ◌*◌, ◌^◌, ◌≤◌, ◌<◌}
use native.Mathlib.Omega.{arith}
use lib.IntN.{ℤ}
use lib.ListN.{length}
use Rattle.hbc_io.specs.Outcome.{Outcome, got, valued, cursor_at}
use Rattle.hbc_io.specs.declared.Cursor.{Cursor}
use Rattle.hbc_io.proofs.Reading.{valued_got}
use Rattle.hbc_io_leb.specs.Leb.{groups, leb_bytes, unsigned_of, signed_of, exact_unsigned, exact_signed}
use Rattle.hbc_io_leb.specs.Private.{First, groups_of, signed_bits, exact_u, exact_s}
use Rattle.hbc_io_leb.specs.Answers.{uleb_of, sleb_of}
use Rattle.hbc_io_leb.specs.declared.Groups.{Groups}
use Rattle.hbc_io_leb.specs.declared.Uleb.{Uleb}
use Rattle.hbc_io_leb.specs.declared.Sleb.{Sleb}
use Rattle.hbc_io_leb.proofs.Lebs.{groups_of_lt, leb_one, leb_got}
use Rattle.hbc_io_leb.proofs.Slebs.{signed_law}
use Rattle.hbc_io_leb.proofs.Exacts.{exact_u_lem, exact_s_lem}

-- a first byte that is a whole number
pub one_read : (s : List ℕ) (c : Cursor) {r b : ℕ} → First s c.at r → r < 128 → b ≡ r
    → valued groups_of (leb_bytes s c) ≡ got (record { bits = b; count = 1; last = b }) (cursor_at (c.at + 1))
one_read s c {r} {b} f h e = let w = f.whole h in leb_one s c w.0 w.1 b (omega arith) (e ∙ w.2)

module _ (s : List ℕ) (c : Cursor) (g : Groups) (n : Cursor) (e : valued groups_of (leb_bytes s c) ≡ got g n) where
  pub unsigned_read : {x : Bool} → x ≡ exact_u g.count g.last → valued uleb_of (leb_bytes s c) ≡ got (record { value = g.bits; exact = x }) n
  unsigned_read {x} f =
      let w = valued_got groups_of (leb_bytes s c) g n e in
      let k = leb_got s c w.0 n w.1 in
      let v : unsigned_of w.0 ≡ g.bits = ap (λ (h : Groups). h.bits) (sym w.2) in
      let y : exact_unsigned w.0 ≡ x = sym (exact_u_lem w.0 k.few) ∙ ap (λ (h : Groups). exact_u h.count h.last) (sym w.2) ∙ sym f in
      let made : ℕ → Bool → Outcome Uleb = λ a b. got (record { value = a; exact = b }) n in
      ap (valued uleb_of) w.1 ∙ ap (λ (a : ℕ). made a (exact_unsigned w.0)) v ∙ ap (made g.bits) y

  -- they are as many as their sign's place asks for
  pub groups_fit : (1 ≤ g.count) × (g.bits < 2 ^ (7 * g.count))
  groups_fit =
      let w = valued_got groups_of (leb_bytes s c) g n e in
      let k = leb_got s c w.0 n w.1 in
      rw w.2 (k.some, omega (arith, groups_of_lt w.0))

  pub signed_read : {z : ℤ} {x : Bool} → z ≡ signed_bits g.bits g.count → x ≡ exact_s g.count g.last
      → valued sleb_of (leb_bytes s c) ≡ got (record { value = z; exact = x }) n
  signed_read {z} {x} f d =
      let w = valued_got groups_of (leb_bytes s c) g n e in
      let k = leb_got s c w.0 n w.1 in
      let v : signed_of w.0 ≡ z =
      signed_law (length w.0) (groups w.0) k.some k.few (groups_of_lt w.0)
      ∙ ap (λ (h : Groups). signed_bits h.bits h.count) (sym w.2) ∙ sym f in
      let y : exact_signed w.0 ≡ x = sym (exact_s_lem w.0 k.few) ∙ ap (λ (h : Groups). exact_s h.count h.last) (sym w.2) ∙ sym d in
      let made : ℤ → Bool → Outcome Sleb = λ a b. got (record { value = a; exact = b }) n in
      ap (valued sleb_of) w.1 ∙ ap (λ (a : ℤ). made a (exact_signed w.0)) v ∙ ap (made z) y
