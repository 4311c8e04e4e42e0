-- When the answer to a LEB128 number is the number that DWARF 5, section 7.6, has for its bytes: exactly when that fits 64 bits, and exactly
-- when its mark is true.
use Prim.Native.Nat.{ℕ, suc, ◌+◌, ◌-◌, ◌*◌, ◌%◌, ◌^◌, ◌≤◌, ◌<◌}
use mathlib.Core.Path.{◌≡◌, refl, sym, ap, subst, ◌∙◌}
use mathlib.Core.List.{List}
use mathlib.Core.Bool.{Bool, true, false, cond}
use native.Mathlib.Omega.{arith}
use native.Mathlib.Nat.{mod-eq_of_lt, mod-lt}
use borrow.Author.Tests.{lt-ltb, le-ltb, le-leb, leb-true, eq-eqb, ne_eqb, eqb-true}
use lib.IntN.{ℤ, pos, negsuc}
use lib.ListN.{length, get_or, take, get_or-eq_default}
use lib.Seq.{take-length}
use lib.Pow.{pow_mono}
use lib.Dec.{ltb, eqb}
use Rattle.hbc_io.specs.Outcome.{got, twos}
use Rattle.hbc_io.specs.declared.Cursor.{Cursor}
use Rattle.hbc_io_leb.specs.Leb.{groups, leb_bytes, dwarf_unsigned, dwarf_signed, unsigned_of, signed_of, low64, tenth, exact_unsigned, exact_signed}
use Rattle.hbc_io_leb.proofs.Lebs.{groups_lt, groups_more, groups_of_lt, leb_got}
use Rattle.hbc_io_leb.proofs.Slebs.{by_le, kept}
use Rattle.hbc_claims_law.specs.Terms.{Either, left, right, Fits64}
use Rattle.hbc_claims_io.specs.Leb128.{MarkTells}

-- ---- unsigned

pub unsigned_kept : (bs : List ℕ) → dwarf_unsigned bs < 2 ^ 64 → unsigned_of bs ≡ dwarf_unsigned bs
unsigned_kept bs h = mod-eq_of_lt h

pub unsigned_only : (bs : List ℕ) → unsigned_of bs ≡ dwarf_unsigned bs → dwarf_unsigned bs < 2 ^ 64
unsigned_only bs e = omega (arith, mod-lt (groups bs) {m = 2 ^ 64} (omega arith))

-- ---- signed

keeps : (z : ℤ) → Fits64 z → low64 z ≡ z
keeps (pos n) h =
    let m : n % 2 ^ 64 ≡ n = mod-eq_of_lt (omega arith) in
    simp (m, lt-ltb n (2 ^ 63) h)
keeps (negsuc n) h =
    let m : n % 2 ^ 64 ≡ n = mod-eq_of_lt (omega arith) in
    let b : 2 ^ 64 - suc (2 ^ 64 - suc n) ≡ n = omega arith in
    simp (m, le-ltb (2 ^ 64 - suc n) (2 ^ 63) (omega arith)) (ap negsuc b)

fits_twos : (m : ℕ) → m < 2 ^ 64 → Fits64 (twos 64 m)
fits_twos m h =
    by_le (2 ^ 63) m
    (λ l. rw (le-ltb m (2 ^ 63) l) (omega arith))
    (λ l. rw (lt-ltb m (2 ^ 63) l) l)

fits_low : (z : ℤ) → Fits64 (low64 z)
fits_low (pos n) = fits_twos (n % 2 ^ 64) (mod-lt n {m = 2 ^ 64} (omega arith))
fits_low (negsuc n) = fits_twos (2 ^ 64 - suc (n % 2 ^ 64)) (omega arith)

pub signed_kept : (bs : List ℕ) → Fits64 (dwarf_signed bs) → signed_of bs ≡ dwarf_signed bs
signed_kept bs h = keeps (dwarf_signed bs) h

pub signed_only : (bs : List ℕ) → signed_of bs ≡ dwarf_signed bs → Fits64 (dwarf_signed bs)
signed_only bs e = subst Fits64 e (fits_low (dwarf_signed bs))

-- ---- nine bytes or fewer lose nothing

pub nine_unsigned : (bs : List ℕ) → length bs ≤ 9 → unsigned_of bs ≡ dwarf_unsigned bs
nine_unsigned bs h =
    let p : 2 ^ (7 * length bs) ≤ 2 ^ 63 = pow_mono {i = 7 * length bs} {j = 63} (omega arith) in
    unsigned_kept bs (omega (arith, groups_of_lt bs))

pub nine_signed : (bs : List ℕ) → 1 ≤ length bs → length bs ≤ 9 → signed_of bs ≡ dwarf_signed bs
nine_signed bs a h = kept (length bs) (groups bs) a (omega arith) (groups_of_lt bs)

-- ---- the mark of a number that was read

-- a tenth byte t over nine groups w: the 70 bits fit 64 exactly when t says what the sign says
ten_kept : (t w : ℕ) → w < 2 ^ 63 → Either (t ≡ 0) (t ≡ 127) → Fits64 (twos 70 (t * 2 ^ 63 + w))
ten_kept t w h (left e) = rw (lt-ltb (t * 2 ^ 63 + w) (2 ^ 69) (omega arith)) (omega arith)
ten_kept t w h (right e) = rw (le-ltb (t * 2 ^ 63 + w) (2 ^ 69) (omega arith)) (omega arith)

ten_only : (t w : ℕ) → t < 128 → w < 2 ^ 63 → Fits64 (twos 70 (t * 2 ^ 63 + w)) → Either (t ≡ 0) (t ≡ 127)
ten_only t w b h f =
    by_le (2 ^ 69) (t * 2 ^ 63 + w)
    (λ l. let g : 2 ^ 70 - suc (t * 2 ^ 63 + w) < 2 ^ 63 = rw (le-ltb (t * 2 ^ 63 + w) (2 ^ 69) l) at f in right (omega arith))
    (λ l. let g : t * 2 ^ 63 + w < 2 ^ 63 = rw (lt-ltb (t * 2 ^ 63 + w) (2 ^ 69) l) at f in left (omega arith))

-- what the signed mark tests
tests : (t : ℕ) → cond (eqb t 0) true (eqb t 127) ≡ true → Either (t ≡ 0) (t ≡ 127)
tests t e = by (eqb t 0) refl
  where
    by : (b : Bool) → eqb t 0 ≡ b → Either (t ≡ 0) (t ≡ 127)
    by true f = left (eqb-true t 0 f)
    by false f = right (eqb-true t 127 (rw f at e))

tested : (t : ℕ) → Either (t ≡ 0) (t ≡ 127) → cond (eqb t 0) true (eqb t 127) ≡ true
tested t (left e) = rw e
tested t (right e) = rw e

module _ (bs : List ℕ) (s : List ℕ) (c n : Cursor) (e : leb_bytes s c ≡ got bs n) where
  none : length bs ≤ 9 → tenth bs ≡ 0
  none h = get_or-eq_default bs 0 h

  -- of ten groups the tenth counts 2^63
  ten : 10 ≤ length bs → (length bs ≡ 10) × (tenth bs < 128) × (groups bs ≡ tenth bs * 2 ^ 63 + groups (take 9 bs))
  ten h =
      let k = leb_got s c bs n e in
      let m : length bs ≡ 10 = omega (arith, k.few) in
      let l : get_or bs (length bs - 1) 0 ≡ tenth bs = ap (λ (i : ℕ). get_or bs (i - 1) 0) m in
      let b : tenth bs < 128 = omega (arith, k.ends) in
      let t : take 10 bs ≡ bs = ap (λ (i : ℕ). take i bs) (sym m) ∙ take-length bs in
      let g : groups bs ≡ (tenth bs % 128) * 2 ^ 63 + groups (take 9 bs) = ap groups (sym t) ∙ groups_more bs 9 (omega arith) in
      (m, b, g ∙ ap (λ (x : ℕ). x * 2 ^ 63 + groups (take 9 bs)) (mod-eq_of_lt b))

  unsigned_exact : exact_unsigned bs ≡ true → unsigned_of bs ≡ dwarf_unsigned bs
  unsigned_exact x =
      let a : tenth bs ≤ 1 = leb-true (tenth bs) 1 x in
      by_le 10 (length bs) (λ h. unsigned_kept bs (omega (arith, (ten h).2, groups_lt bs 9))) (λ h. nine_unsigned bs (omega arith))

  unsigned_exact_only : unsigned_of bs ≡ dwarf_unsigned bs → exact_unsigned bs ≡ true
  unsigned_exact_only x =
      let a : groups bs < 2 ^ 64 = unsigned_only bs x in
      by_le 10 (length bs)
      (λ h. le-leb (tenth bs) 1 (omega (arith, (ten h).2)))
      (λ h. le-leb (tenth bs) 1 (omega (arith, none (omega arith))))

  -- the number of ten bytes
  signed_ten : 10 ≤ length bs → dwarf_signed bs ≡ twos 70 (tenth bs * 2 ^ 63 + groups (take 9 bs))
  signed_ten h = ap (λ (k : ℕ). twos (7 * k) (groups bs)) (ten h).0 ∙ ap (twos 70) (ten h).2

  signed_exact : exact_signed bs ≡ true → signed_of bs ≡ dwarf_signed bs
  signed_exact x =
      by_le 10 (length bs)
      (λ h. signed_kept bs (subst Fits64 (sym (signed_ten h)) (ten_kept (tenth bs) (groups (take 9 bs)) (groups_lt bs 9) (tests (tenth bs) x))))
      (λ h. nine_signed bs (leb_got s c bs n e).some (omega arith))

  signed_exact_only : signed_of bs ≡ dwarf_signed bs → exact_signed bs ≡ true
  signed_exact_only x =
      tested (tenth bs)
      (by_le 10 (length bs)
      (λ h. ten_only (tenth bs) (groups (take 9 bs)) (ten h).1 (groups_lt bs 9) (subst Fits64 (signed_ten h) (signed_only bs x)))
      (λ h. left (none (omega arith))))

  pub mark_tells : MarkTells bs
  mark_tells = record {
    unsigned = record { holds = unsigned_exact; only = unsigned_exact_only };
    signed = record { holds = signed_exact; only = signed_exact_only };
  }
