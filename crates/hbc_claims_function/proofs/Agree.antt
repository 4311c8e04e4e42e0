-- Two files that agree on some bytes have the same numbers there.
use Prim.Native.Nat.{ℕ, zero, suc, ◌+◌, ◌*◌, ◌≤◌}
use mathlib.Core.Path.{◌≡◌, refl, sym, ◌∙◌}
use mathlib.Core.List.{List, [], ◌∷◌}
use mathlib.Core.Bool.{false}
use native.Mathlib.Omega.{arith}
use lib.ListN.{get_or, take, drop}
use lib.Seq.{take-nil}
use Rattle.hbc_bits.specs.Bits.{little_endian, le_at}
use Rattle.hbc_function_header.specs.Meets.{overlap}
use Rattle.hbc_function_header.proofs.Meetings.{shares}
use Rattle.hbc_claims_law.specs.Terms.{Same}
use Rattle.hbc_claims_function.specs.Agree.{Agree}
use Rattle.hbc_claims_function.specs.Panes.{SameBut}
use Rattle.hbc_claims_function.proofs.Truths.{never}

-- what does not meet the two spans is the same in both
pub agrees : {a b : List ℕ} {low₁ high₁ low₂ high₂ : ℕ} → SameBut a b low₁ high₁ low₂ high₂ → (x n : ℕ) → overlap x n low₁ high₁ ≡ false
    → overlap x n low₂ high₂ ≡ false → Agree a b x (x + n)
agrees {low₁ = low₁} {high₁ = high₁} {low₂ = low₂} {high₂ = high₂} v x n o u = record {
  at = λ j h k. v.out j (λ p q. never (shares x n low₁ high₁ (omega arith) ∙ o)) (λ p q. never (shares x n low₂ high₂ (omega arith) ∙ u));
}

-- one span, taken twice
pub but_one : {a b : List ℕ} {low high : ℕ} → Same a b low high → SameBut a b low high low high
but_one v = record { long = v.long; out = λ j p q. v.out j p }

byte_more : (s : List ℕ) (x n : ℕ) → little_endian (take (suc n) (drop x s)) ≡ get_or s x 0 + 256 * little_endian (take n (drop (suc x) s))
byte_more [] zero n = sym (rw take-nil)
byte_more [] (suc x) n = sym (rw take-nil)
byte_more (y ∷ s) zero n = refl
byte_more (y ∷ s) (suc x) n = byte_more s x n

-- a number within agreed bytes is the same in both
pub same_num : {a b : List ℕ} {lo hi : ℕ} → Agree a b lo hi → (x n : ℕ) → lo ≤ x → x + n ≤ hi → le_at a x n ≡ le_at b x n
unfolding le_at
same_num v x zero h k = refl
same_num {a} {b} v x (suc n) h k =
    rw (byte_more a x n, byte_more b x n, v.at x h (omega arith), same_num v (suc x) n (omega arith) (omega arith))
