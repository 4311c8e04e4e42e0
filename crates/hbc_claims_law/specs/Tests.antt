-- docs/FORMAT.md, section 1.2: an answer that is chosen by tests one after another, each of which may refuse: what it says of the tests.
use Rattle.std.specs.Prelude.{◌≡◌, Bool, false, cond}

-- a test b whose own answer x it was not is past, and a later one, o, it was
abbrev pub Passed : {A : Type 0} → Bool → A → A → A → Type 0
Passed b x o z = cond b x o ≡ z → (b ≡ false) × (o ≡ z)
