-- What each tag says, and a read of no bytes.
use Prim.Native.Nat.{ℕ, ◌≤◌, ◌<◌, ◌^◌, ◌*◌}
use mathlib.Core.Path.{◌≡◌, refl, sym}
use mathlib.Core.Bool.{Bool, true, false, cond}
use mathlib.Core.List.{List}
use native.Mathlib.Omega.{arith}
use native.Mathlib.Nat.{lt_of_lt_of_le}
use borrow.Author.Tests.{ne_eqb}
use lib.Dec.{ltb, eqb}
use lib.ListN.{length}
use lib.Pow.{pow_mono}
use lib.Ieee.{of_bits, binary64}
use Rattle.hbc_bits.specs.Bits.{le_at}
use Rattle.hbc_bits.proofs.Laws.{Bytes}
use Rattle.hbc_io.specs.Outcome.{got, refused, valued, refusal, limit, left, twos}
use Rattle.hbc_io.specs.Plain.{plain_at, bytes_at, span_of}
use Rattle.hbc_io.specs.declared.Cursor.{Cursor}
use Rattle.hbc_io.specs.declared.Refusal.{Refusal}
use Rattle.hbc_io.specs.declared.Span.{Span}
use Rattle.hbc_io.proofs.Reading.{valued_on}
use Rattle.hbc_io.proofs.Plains.{plain_lt}
use Rattle.hbc_buffer_literal.specs.declared.Literal.{Literal}
use Rattle.hbc_buffer_literal.specs.declared.Literal.TheVariants.{Null, Bool as Truth, Number, String, Integer}
use Rattle.hbc_buffer_literal.specs.Literal.{width_of, literal_of, literal_at, kind_of}

valued_tests : {A B : Type 0} (f : A → B) (a b d : Bool) (i j k : Refusal) (c n : Cursor) (x : A)
    → valued f (cond a (refused i c) (cond b (refused j c) (cond d (refused k c) (got x n)))) ≡ cond a (refused i c) (cond b (refused j c) (cond d (refused k c) (got (f x) n)))
valued_tests f true b d i j k c n x = refl
valued_tests f false true d i j k c n x = refl
valued_tests f false false true i j k c n x = refl
valued_tests f false false false i j k c n x = refl

-- no bytes make the number 0
pub none_is : (s : List ℕ) (c : Cursor) → valued (λ (p : Span). 0) (bytes_at 0 s c) ≡ plain_at 0 s c
unfolding bytes_at plain_at le_at
none_is s c =
    valued_tests (λ (p : Span). 0) (ltb limit (length s)) (ltb (length s) c.at) (ltb (left s c) 0) (refusal 1) (refusal 2) (refusal 3) c _ (span_of c.at 0)

-- a tag that is none of those with bytes
pub width_none : {t : ℕ} → (t ≡ 3 → ⊥) → (t ≡ 4 → ⊥) → (t ≡ 5 → ⊥) → (t ≡ 6 → ⊥) → (t ≡ 7 → ⊥) → width_of t ≡ 0
unfolding width_of
width_none a b c d e = rw (ne_eqb _ _ a, ne_eqb _ _ b, ne_eqb _ _ c, ne_eqb _ _ d, ne_eqb _ _ e)

at_most : (w : ℕ) (b : Bool) (x y : ℕ) → x ≤ w → y ≤ w → cond b x y ≤ w
at_most w true x y h k = h
at_most w false x y h k = k

-- all but a float have at most four bytes
pub width_small : {t : ℕ} → (t ≡ 3 → ⊥) → width_of t ≤ 4
unfolding width_of
width_small {t} h =
    rw (ne_eqb _ _ h)
    (at_most 4 (eqb t 4) 4 _ (omega arith) (at_most 4 (eqb t 5) 2 _ (omega arith) (at_most 4 (eqb t 6) 1 _ (omega arith) (at_most 4 (eqb t 7) 4 0 (omega arith) (omega arith)))))

pub null_is : {t : ℕ} (v : ℕ) → (t ≡ 1 → ⊥) → (t ≡ 2 → ⊥) → (t ≡ 3 → ⊥) → (t ≡ 4 → ⊥) → (t ≡ 5 → ⊥) → (t ≡ 6 → ⊥) → (t ≡ 7 → ⊥) → Null ≡ literal_of t v
unfolding literal_of
null_is v a b c d e f g = rw (ne_eqb _ _ a, ne_eqb _ _ b, ne_eqb _ _ c, ne_eqb _ _ d, ne_eqb _ _ e, ne_eqb _ _ f, ne_eqb _ _ g)

-- a float and an integer are what the reads below say
pub number_is : (s : List ℕ) (c : Cursor) → valued Number (valued (of_bits binary64) (plain_at 8 s c)) ≡ literal_at 3 s c
unfolding literal_at literal_of width_of
number_is s c = sym (valued_on (of_bits binary64) Number (plain_at 8 s c))

pub integer_is : (s : List ℕ) (c : Cursor) → valued Integer (valued (twos 32) (plain_at 4 s c)) ≡ literal_at 7 s c
unfolding literal_at literal_of width_of
integer_is s c = sym (valued_on (twos 32) Integer (plain_at 4 s c))

-- any literal, from the number of its bytes
module _ (t : ℕ) (s : List ℕ) (c : Cursor) where
  -- its number fits 32 bits if it is no float
  pub payload_lt : {v : ℕ} {n : Cursor} → Bytes s → (t ≡ 3 → ⊥) → plain_at (width_of t) s c ≡ got v n → v < 2 ^ 32
  payload_lt {v} {n} b h e =
      lt_of_lt_of_le (plain_lt (width_of t) s c v n b e) (pow_mono {i = 8 * width_of t} {j = 32} (omega (arith, width_small h)))

-- none has more than eight
pub width_most : (t : ℕ) → width_of t ≤ 8
unfolding width_of
width_most t =
    at_most 8 (eqb t 3) 8 _ (omega arith)
    (at_most 8 (eqb t 4) 4 _ (omega arith)
    (at_most 8 (eqb t 5) 2 _ (omega arith) (at_most 8 (eqb t 6) 1 _ (omega arith) (at_most 8 (eqb t 7) 4 0 (omega arith) (omega arith)))))

kind_cond : (b : Bool) (x y u v : Literal) → kind_of x ≡ kind_of u → kind_of y ≡ kind_of v → kind_of (cond b x y) ≡ kind_of (cond b u v)
kind_cond true x y u v e f = e
kind_cond false x y u v e f = f

-- the kind is the tag's alone
pub kind_any : (t v w : ℕ) → kind_of (literal_of t v) ≡ kind_of (literal_of t w)
unfolding literal_of
kind_any t v w =
    kind_cond (eqb t 1) (Truth true) _ (Truth true) _ refl
    (kind_cond (eqb t 2) (Truth false) _ (Truth false) _ refl
    (kind_cond (eqb t 3) (Number (of_bits binary64 v)) _ (Number (of_bits binary64 w)) _ refl
    (kind_cond (eqb t 4) (String v) _ (String w) _ refl
    (kind_cond (eqb t 5) (String v) _ (String w) _ refl
    (kind_cond (eqb t 6) (String v) _ (String w) _ refl
    (kind_cond (eqb t 7) (Integer (twos 32 v)) Null (Integer (twos 32 w)) Null refl refl))))))
