-- Laws of escapes: how long they are, and which texts have none.
use Prim.Native.Nat.{ℕ, ◌+◌, ◌*◌, ◌≤◌, ◌<◌}
use mathlib.Core.Path.{◌≡◌, refl, sym, ap, ◌∙◌}
use mathlib.Core.Logic.{◌⊎◌, inl, inr}
use mathlib.Core.List.{List, [], ◌∷◌, ◌++◌, append_assoc}
use mathlib.Core.Bool.{Bool, true, false, cond, ◌||◌}
use native.Mathlib.Omega.{arith}
use lib.ListN.{length, length-append}
use lib.Dec.{ltb, lit≤}
use borrow.Author.Tests.{le-ltb, ne_eqb}
use Rattle.hbc_text_forms.proofs.Laws.{no}
use Rattle.hbc_text_forms.proofs.Codes.{split}
use Rattle.hbc_json_forms.specs.Json.{is_quote, is_escaped, escape, escaped}

-- ---- one byte

last_of : (l q : Bool) (x y z : List ℕ) → (l || q) ≡ false → cond q x (cond l y z) ≡ z
last_of true q x y z e = no (sym e)
last_of false true x y z e = no (sym e)
last_of false false x y z e = refl

pub escape_plain : (b : ℕ) → is_escaped b ≡ false → escape b ≡ b ∷ []
unfolding escape
escape_plain b e = last_of (ltb b 0x20) (is_quote b) _ _ _ e

-- one byte to six
record Sized (x : List ℕ) : Type 0 where
  some : 0 < length x
  most : length x ≤ 6

either : (w : Bool) {x y : List ℕ} → Sized x → Sized y → Sized (cond w x y)
either true f g = f
either false f g = g

sized : (b : ℕ) → Sized (escape b)
unfolding escape
sized b =
    either (is_quote b) (record { some = omega arith; most = omega arith })
    (either (ltb b 0x20) (record { some = omega arith; most = omega arith }) (record { some = omega arith; most = omega arith }))

pub escape_length : (b : ℕ) → length (escape b) ≤ 6
escape_length b = (sized b).most

pub escape_some : (b : ℕ) → 0 < length (escape b)
escape_some b = (sized b).some

pub clear_high : (b : ℕ) → 0x80 ≤ b → is_escaped b ≡ false
clear_high b h =
    let k : 0x20 ≤ b = omega arith in
    rw (le-ltb b 0x20 k, ne_eqb b 0x22 (λ e. omega arith), ne_eqb b 0x5C (λ e. omega arith))

low_at : (b : ℕ) → is_escaped b ≡ true → (b < 0x80) ⊎ (0x80 ≤ b) → b < 0x80
low_at b e (inl h) = h
low_at b e (inr h) = no (sym (clear_high b h) ∙ e)

pub low_escaped : (b : ℕ) → is_escaped b ≡ true → b < 0x80
low_escaped b e = low_at b e (split b 0x80)

-- ---- texts

pub escaped_append : (a c : List ℕ) → escaped (a ++ c) ≡ escaped a ++ escaped c
unfolding escaped
escaped_append [] c = refl
escaped_append (b ∷ a) c = ap (λ (l : List ℕ). escape b ++ l) (escaped_append a c) ∙ sym (append_assoc (escape b) (escaped a) (escaped c))

pub append_length : (a c : List ℕ) → length (escaped (a ++ c)) ≡ length (escaped a) + length (escaped c)
append_length a c = ap length (escaped_append a c) ∙ length-append (escaped a) (escaped c)

pub cons_length : (b : ℕ) (t : List ℕ) → length (escaped (b ∷ t)) ≡ length (escape b) + length (escaped t)
unfolding escaped
cons_length b t = length-append (escape b) (escaped t)

pub escaped_length : (t : List ℕ) → length (escaped t) ≤ 6 * length t
unfolding escaped
escaped_length [] = lit≤ tt
escaped_length (b ∷ t) = omega (arith, cons_length b t, escape_length b, escaped_length t)

-- nothing in the list is escaped
pub data Clear : List ℕ → Type 0 where
  none : Clear []
  more : {b : ℕ} {s : List ℕ} → is_escaped b ≡ false → Clear s → Clear (b ∷ s)

pub clear_escaped : {t : List ℕ} → Clear t → escaped t ≡ t
unfolding escaped
clear_escaped none = refl
clear_escaped (more {b} e h) = rw (escape_plain b e, clear_escaped h)

pub clear_append : {a c : List ℕ} → Clear a → Clear c → Clear (a ++ c)
clear_append none k = k
clear_append (more e h) k = more e (clear_append h k)
