-- docs/FORMAT.md, section 1.6: what uniqueness says of a call, whatever the call: two outcomes that both meet its contract are equal. A contract L is
-- the checker's own, of the lifetimes K, the arguments A, the answer R, and all parameters E as the call leaves them.
use Rattle.std.specs.Prelude.{◌≡◌, List, [], ◌∷◌}
use Rattle.std.specs.Borrow.{Bor}

-- one value for whatever f takes of the answer and of what is left
abbrev pub Part : {K A R E : Type 0} → (K → A → R → E → Type 0) → {T : Type 0} → (R → E → T) → Type 0
Part {K} {A} {R} {E} L f = (k : K) (a : A) (r q : R) (s u : E) → L k a r s → L k a q u → f r s ≡ f q u

-- one answer
abbrev pub One : {K A R E : Type 0} → (K → A → R → E → Type 0) → Type 0
One L = Part L (λ r s. r)

-- one part of a slice that is handed back: its bytes, and where in memory they stand
abbrev pub OnePart : {K A X E : Type 0} → (K → A → Bor X → E → Type 0) → Type 0
OnePart {K} {A} {X} {E} L = (k : K) (a : A) (r q : Bor X) (s u : E) → L k a r s → L k a q u → (r.now ≡ q.now) × (r.ref_ptr ≡ q.ref_ptr)

-- one value for the words that were lent at a place
abbrev pub Words : {K A R E : Type 0} → (K → A → R → E → Type 0) → {W : Type 0} → (E → W) → Type 0
Words L words = Part L (λ r s. words s)

-- one answer and one value for what was lent at a place, at two, at three
abbrev pub Both : {K A R E : Type 0} → (K → A → R → E → Type 0) → {W : Type 0} → (E → W) → Type 0
Both {K} {A} {R} {E} L w = (k : K) (a : A) (r q : R) (s u : E) → L k a r s → L k a q u → (r ≡ q) × (w s ≡ w u)

abbrev pub Both2 : {K A R E : Type 0} → (K → A → R → E → Type 0) → {W X : Type 0} → (E → W) → (E → X) → Type 0
Both2 {K} {A} {R} {E} L w x = (k : K) (a : A) (r q : R) (s u : E) → L k a r s → L k a q u → (r ≡ q) × (w s ≡ w u) × (x s ≡ x u)

abbrev pub Both3 : {K A R E : Type 0} → (K → A → R → E → Type 0) → {W X Y : Type 0} → (E → W) → (E → X) → (E → Y) → Type 0
Both3 {K} {A} {R} {E} L w x y =
    (k : K) (a : A) (r q : R) (s u : E) → L k a r s → L k a q u → (r ≡ q) × (w s ≡ w u) × (x s ≡ x u) × (y s ≡ y u)

-- the law behind them all: what equals one thing is one thing
abbrev pub OneThing : {A : Type 0} → A → A → A → Type 0
OneThing x r q = r ≡ x → q ≡ x → r ≡ q

-- all of a list of statements
abbrev pub All : List {1} (Type 0) → Type 0
All [] = Unit {0}
All (p ∷ ps) = p × All ps
