-- docs/FORMAT.md, section 4.8: maximal ill-formed parts, after D93b of the Unicode Standard, and bytes cut into characters and such parts.
use Rattle.std.specs.Prelude.{ℕ, suc, ◌+◌, ◌≤◌, ◌<◌, ◌≡◌, ◌⊎◌, List, [], ◌∷◌, ◌++◌, Bool, true, false, cond, ◌&&◌, length, take, eqb}
use Rattle.hbc_text_forms.specs.Utf8.{Character, replacement}

-- the bytes begin a character
pub record Begins (p : List ℕ) : Type 0 where
  pub rest : List ℕ
  pub is : Character (p ++ rest)

-- no character is in front of s, and n of its bytes, at least one, are the longest that begin one, or are one byte
pub record Maximal (s : List ℕ) (n : ℕ) : Type 0 where
  pub some : 0 < n
  pub inside : n ≤ length s
  pub ill : (k : ℕ) → Character (take k s) → ⊥
  pub initial : (n ≡ 1) ⊎ Begins (take n s)
  pub longest : (k : ℕ) → n < k → k ≤ length s → Begins (take k s) → ⊥

-- ---- bytes cut from the front

-- two lists are the same
abbrev pub same : List ℕ → List ℕ → Bool
same [] [] = true
same [] (b ∷ t) = false
same (a ∷ s) [] = false
same (a ∷ s) (b ∷ t) = eqb a b && same s t

-- 1 for a character that is U+FFFD itself, else 0
unfoldable pub own : List ℕ → ℕ
own c = cond (same c replacement) 1 0

-- s cut into characters, k of which are U+FFFD themselves, and n maximal ill-formed parts; t has each character as it is, and U+FFFD for each such part
pub data Cut : List ℕ → ℕ → ℕ → List ℕ → Type 0 where
  nothing : Cut [] 0 0 []
  character : {c s t : List ℕ} {k n : ℕ} → Character c → Cut s k n t → Cut (c ++ s) (own c + k) n (c ++ t)
  part : (p : List ℕ) {s t : List ℕ} {k n : ℕ} → Maximal (p ++ s) (length p) → Cut s k n t → Cut (p ++ s) k (suc n) (replacement ++ t)
