-- docs/FORMAT.md, section 2.1: a number's fields by one list of (first bit, width), cut out and put together; and numbers as bytes and as words.
use Rattle.std.specs.Prelude.{ℕ, zero, suc, ◌+◌, ◌*◌, ◌/◌, ◌%◌, ◌^◌, List, [], ◌∷◌, ◌++◌, Bool, true, false, cond, ltb}
use Rattle.hbc_bits.specs.Bits.{field}

-- every field of a number, in the list's order
unfoldable pub fields_of : List (ℕ × ℕ) → ℕ → List ℕ
fields_of [] n = []
fields_of (f ∷ fs) n = field f.0 f.1 n ∷ fields_of fs n

-- the number that holds each value from its field's first bit up, as many bits of it as the field is wide
unfoldable pub joined : List (ℕ × ℕ) → List ℕ → ℕ
joined [] vs = 0
joined (f ∷ fs) [] = 0
joined (f ∷ fs) (v ∷ vs) = v % 2 ^ f.1 * 2 ^ f.0 + joined fs vs

-- as many values as fields, and each fits its width
unfoldable pub fit : List (ℕ × ℕ) → List ℕ → Bool
fit [] [] = true
fit [] (v ∷ vs) = false
fit (f ∷ fs) [] = false
fit (f ∷ fs) (v ∷ vs) = cond (ltb v (2 ^ f.1)) (fit fs vs) false

-- the n low bytes of a number, the least first
abbrev pub bytes_of : ℕ → ℕ → List ℕ
bytes_of zero x = []
bytes_of (suc n) x = x % 256 ∷ bytes_of n (x / 256)

-- its n low words of 32 bits, likewise
abbrev pub words_of : ℕ → ℕ → List ℕ
words_of zero x = []
words_of (suc n) x = x % 2 ^ 32 ∷ words_of n (x / 2 ^ 32)

-- values one after another, each in as many bytes as the list of sizes says
unfoldable pub laid : List ℕ → List ℕ → List ℕ
laid [] vs = []
laid (n ∷ ns) [] = []
laid (n ∷ ns) (v ∷ vs) = bytes_of n v ++ laid ns vs
