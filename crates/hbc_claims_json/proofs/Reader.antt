-- The grammar reads in one way. A function reads the char in front, another passes white space; the grammar agrees with both.
use Prim.Native.Nat.{ℕ, ◌+◌, ◌*◌, ◌-◌, ◌≤◌, ◌<◌}
use mathlib.Core.Path.{◌≡◌, refl, sym, ap, ◌∙◌}
use mathlib.Core.Logic.{inl, inr}
use mathlib.Core.List.{List, [], ◌∷◌, ◌++◌, append_assoc}
use mathlib.Core.Bool.{Bool, true, false, cond, ◌||◌}
use native.Mathlib.Omega.{arith}
use lib.ListN.{get_or, drop}
use lib.Dec.{ltb, leb, eqb}
use borrow.Author.Tests.{lt-ltb, le-ltb, le-leb, leb-true, eqb-false, ne_eqb}
use Rattle.hbc_text_forms.specs.Utf16.{is_high, High, Surrogate, pair_of}
use Rattle.hbc_text_forms.proofs.Laws as laws
use Rattle.hbc_claims_json.specs.Rfc8259.{space, horizontal_tab, new_line, return, Ws, no_blank, blank, Structural, around}
use Rattle.hbc_claims_json.specs.Rfc8259.{Short, quotation_mark, reverse_solidus, solidus, backspace, form_feed, line_feed, carriage_return, tab}
use Rattle.hbc_claims_json.specs.Rfc8259.{HexDig, digit, upper, lower, Four, four, Unescaped, Char, unescaped, short, code, pair}
use Rattle.hbc_claims_json.specs.Rfc8259.{Chars, no_char, char, String, string}
use Rattle.hbc_claims_json.specs.Rfc8259.{Others, no_other, other, Array, empty, values, JsonText, json_text}
use Rattle.hbc_claims_json.proofs.Bytes.{joined, rest}

abbrev first : List ℕ → ℕ
first s = get_or s 0 0

-- ---- hex digits

unfoldable hex : ℕ → ℕ
hex c = cond (ltb c 0x41) (c - 0x30) (cond (ltb c 0x61) (c - 0x37) (c - 0x57))

hex_is : {c v : ℕ} → HexDig c v → hex c ≡ v
unfolding hex
hex_is (digit {d} h) = let a : 0x30 + d < 0x41 = omega arith in rw (lt-ltb (0x30 + d) 0x41 a) (omega arith)
hex_is (upper {d} l h) =
    let a : 0x41 ≤ 0x37 + d = omega arith in
    let b : 0x37 + d < 0x61 = omega arith in
    rw (le-ltb (0x37 + d) 0x41 a, lt-ltb (0x37 + d) 0x61 b) (omega arith)
hex_is (lower {d} l h) =
    let a : 0x41 ≤ 0x57 + d = omega arith in
    let b : 0x61 ≤ 0x57 + d = omega arith in
    rw (le-ltb (0x57 + d) 0x41 a, le-ltb (0x57 + d) 0x61 b) (omega arith)

abbrev unit : List ℕ → ℕ
unit s = ((hex (get_or s 0 0) * 16 + hex (get_or s 1 0)) * 16 + hex (get_or s 2 0)) * 16 + hex (get_or s 3 0)

-- ---- the character that the char in front names, and what is behind it

abbrev short_of : ℕ → ℕ
short_of c = cond (eqb c 0x62) 0x08 (cond (eqb c 0x66) 0x0C (cond (eqb c 0x6E) 0x0A (cond (eqb c 0x72) 0x0D (cond (eqb c 0x74) 0x09 c))))

abbrev coded : List ℕ → List ℕ
coded s = cond (is_high (unit s)) (pair_of (unit s) (unit (drop 6 s)) ∷ drop 10 s) (unit s ∷ drop 4 s)

abbrev behind_escape : List ℕ → List ℕ
behind_escape s = cond (eqb (first s) 0x75) (coded (rest s)) (short_of (first s) ∷ rest s)

unfoldable next : List ℕ → List ℕ
next s = cond (eqb (first s) 0x5C) (behind_escape (rest s)) s

-- ---- a char is what is read

pub no_escape : {c : ℕ} → Unescaped c → c ≡ 0x5C → ⊥
no_escape (inl h) e = omega arith
no_escape (inr (inl h)) e = omega arith
no_escape (inr (inr h)) e = omega arith

pub no_mark : {c : ℕ} → Unescaped c → c ≡ 0x22 → ⊥
no_mark (inl h) e = omega arith
no_mark (inr (inl h)) e = omega arith
no_mark (inr (inr h)) e = omega arith

is_high_lem : {u : ℕ} → High u → is_high u ≡ true
is_high_lem {u} h = rw (le-leb 0xD800 u h.0, le-leb u 0xDBFF h.1)

not_high_at : (u : ℕ) (b : Bool) → is_high u ≡ b → (Surrogate u → ⊥) → b ≡ false
not_high_at u false e f = refl
not_high_at u true e f =
    let x = laws.both (leb 0xD800 u) (leb u 0xDBFF) e in
    absurd (f (inl (leb-true 0xD800 u x.0, leb-true u 0xDBFF x.1)))

not_high : (u : ℕ) → (Surrogate u → ⊥) → is_high u ≡ false
not_high u f = not_high_at u (is_high u) refl f

coded_is : {p : List ℕ} {u : ℕ} (x : List ℕ) → Four p u → (Surrogate u → ⊥) → coded (p ++ x) ≡ u ∷ x
coded_is x (four a b c d) f = rw (hex_is a, hex_is b, hex_is c, hex_is d, not_high _ f)

paired_is : {p q : List ℕ} {h l : ℕ} (x : List ℕ) → Four p h → High h → Four q l → coded (p ++ (0x5C ∷ 0x75 ∷ q ++ x)) ≡ pair_of h l ∷ x
paired_is x (four a b c d) h (four i j k l) =
    rw (hex_is a, hex_is b, hex_is c, hex_is d, is_high_lem h, hex_is i, hex_is j, hex_is k, hex_is l)

short_is : {c v : ℕ} (x : List ℕ) → Short c v → behind_escape (c ∷ x) ≡ v ∷ x
short_is x quotation_mark = refl
short_is x reverse_solidus = refl
short_is x solidus = refl
short_is x backspace = refl
short_is x form_feed = refl
short_is x line_feed = refl
short_is x carriage_return = refl
short_is x tab = refl

char_is : {p : List ℕ} {c : ℕ} (x : List ℕ) → Char p c → next (p ++ x) ≡ c ∷ x
unfolding next
char_is x (unescaped {c} h) = rw (ne_eqb c 0x5C (no_escape h))
char_is x (short h) = short_is x h
char_is x (code h f) = coded_is x h f
char_is x (pair {p} {q} h i j k) = rw (append_assoc p (0x5C ∷ 0x75 ∷ q) x) (paired_is x h i j)

char_first : {p : List ℕ} {c : ℕ} (x : List ℕ) → Char p c → first (p ++ x) ≡ 0x22 → ⊥
char_first x (unescaped h) e = no_mark h e
char_first x (short h) e = omega arith
char_first x (code h f) e = omega arith
char_first x (pair h i j k) e = omega arith

-- ---- strings: what ends them is no char

chars_one : {p q cs ds : List ℕ} (x y : List ℕ) → Chars p cs → Chars q ds → p ++ (0x22 ∷ x) ≡ q ++ (0x22 ∷ y) → (cs ≡ ds) × (x ≡ y)
chars_one x y no_char no_char e = (refl, ap rest e)
chars_one x y no_char (char {p} {q} a k) e =
    absurd (char_first (q ++ (0x22 ∷ y)) a (ap first (sym (e ∙ append_assoc p q (0x22 ∷ y)))))
chars_one x y (char {p} {q} a k) no_char e =
    absurd (char_first (q ++ (0x22 ∷ x)) a (ap first (sym (append_assoc p q (0x22 ∷ x)) ∙ e)))
chars_one x y (char {p} {q} {c} a k) (char {p = p'} {q = q'} {c = d} b l) e =
    let f : p ++ (q ++ (0x22 ∷ x)) ≡ p' ++ (q' ++ (0x22 ∷ y)) = sym (append_assoc p q (0x22 ∷ x)) ∙ e ∙ append_assoc p' q' (0x22 ∷ y) in
    let n : c ∷ (q ++ (0x22 ∷ x)) ≡ d ∷ (q' ++ (0x22 ∷ y)) = sym (char_is (q ++ (0x22 ∷ x)) a) ∙ ap next f ∙ char_is (q' ++ (0x22 ∷ y)) b in
    let r = chars_one x y k l (ap rest n) in
    (joined (ap first n) r.0, r.1)

string_one : {p q cs ds : List ℕ} (x y : List ℕ) → String p cs → String q ds → p ++ x ≡ q ++ y → (cs ≡ ds) × (x ≡ y)
string_one x y (string {p} a) (string {p = q} b) e =
    chars_one x y a b (sym (append_assoc p (0x22 ∷ []) x) ∙ ap rest e ∙ append_assoc q (0x22 ∷ []) y)

-- ---- white space

abbrev is_blank : ℕ → Bool
is_blank c = eqb c 0x20 || (eqb c 0x09 || (eqb c 0x0A || eqb c 0x0D))

unfoldable skip : List ℕ → List ℕ
skip [] = []
skip (c ∷ s) = cond (is_blank c) (skip s) (c ∷ s)

skipped : {v : List ℕ} (x : List ℕ) → Ws v → skip (v ++ x) ≡ skip x
unfolding skip
skipped x no_blank = refl
skipped x (blank space w) = skipped x w
skipped x (blank horizontal_tab w) = skipped x w
skipped x (blank new_line w) = skipped x w
skipped x (blank return w) = skipped x w

-- the structural character behind white space
abbrev mark : List ℕ → ℕ
mark s = first (skip s)

-- what is behind a character and white space, and behind that structural one
abbrev beyond : List ℕ → List ℕ
beyond s = skip (rest s)

abbrev past : List ℕ → List ℕ
past s = beyond (skip s)

found : {c : ℕ} {v : List ℕ} (w x : List ℕ) → is_blank c ≡ false → Ws v → skip ((v ++ c ∷ w) ++ x) ≡ c ∷ (w ++ x)
unfolding skip
found {c} {v} w x n h = rw (append_assoc v (c ∷ w) x, skipped (c ∷ w ++ x) h, n)

mark_is : {c : ℕ} {p : List ℕ} (x : List ℕ) → is_blank c ≡ false → Structural c p → mark (p ++ x) ≡ c
mark_is x n (around {w} a b) = ap first (found w x n a)

past_is : {c : ℕ} {p : List ℕ} (x : List ℕ) → is_blank c ≡ false → Structural c p → past (p ++ x) ≡ skip x
past_is x n (around {w} a b) = ap beyond (found w x n a) ∙ skipped x b

-- a string begins with none
string_skip : {q cs : List ℕ} (x : List ℕ) → String q cs → skip (q ++ x) ≡ q ++ x
unfolding skip
string_skip x (string a) = refl

string_first : {q cs : List ℕ} (x : List ℕ) → String q cs → first (q ++ x) ≡ 0x22
string_first x (string a) = refl

-- ---- strings behind value-separators, and the end of the array

other_mark : (p q r x : List ℕ) → Structural 0x2C p → mark (p ++ (q ++ r) ++ x) ≡ 0x2C
other_mark p q r x a = ap mark (append_assoc p (q ++ r) x) ∙ mark_is (q ++ r ++ x) refl a

other_past : (p q r x : List ℕ) {cs : List ℕ} → Structural 0x2C p → String q cs → past (p ++ (q ++ r) ++ x) ≡ q ++ (r ++ x)
other_past p q r x a b =
    ap past (append_assoc p (q ++ r) x) ∙ past_is (q ++ r ++ x) refl a ∙ ap skip (append_assoc q r x) ∙ string_skip (r ++ x) b

module _ {y z : List ℕ} (i : Structural 0x5D y) (j : Structural 0x5D z) (v w : List ℕ) where
  others_one : {p q : List ℕ} {css dss : List (List ℕ)} → Others p css → Others q dss → skip (p ++ (y ++ v)) ≡ skip (q ++ (z ++ w)) → css ≡ dss
  others_one no_other no_other e = refl
  others_one no_other (other {p} {q} {r} a b c) e =
      absurd (eqb-false 0x5D 0x2C refl (sym (mark_is v refl i) ∙ ap first e ∙ other_mark p q r (z ++ w) a))
  others_one (other {p} {q} {r} a b c) no_other e =
      absurd (eqb-false 0x5D 0x2C refl (sym (mark_is w refl j) ∙ ap first (sym e) ∙ other_mark p q r (y ++ v) a))
  others_one (other {p} {q} {r} a b c) (other {p = p'} {q = q'} {r = r'} a' b' c') e =
      let f : q ++ (r ++ (y ++ v)) ≡ q' ++ (r' ++ (z ++ w)) =
      sym (other_past p q r (y ++ v) a b) ∙ ap beyond e ∙ other_past p' q' r' (z ++ w) a' b' in
      let s = string_one (r ++ (y ++ v)) (r' ++ (z ++ w)) b b' f in
      joined s.0 (others_one c c' (ap skip s.1))

-- ---- arrays

empty_mark : (p z w : List ℕ) → Structural 0x5B p → Structural 0x5D z → first (past (p ++ z ++ w)) ≡ 0x5D
empty_mark p z w a b = ap first (ap past (append_assoc p z w) ∙ past_is (z ++ w) refl a) ∙ mark_is w refl b

values_past : (p q r z w : List ℕ) {cs : List ℕ} → Structural 0x5B p → String q cs → past (p ++ (q ++ (r ++ z)) ++ w) ≡ q ++ (r ++ (z ++ w))
values_past p q r z w a b =
    let e : q ++ (r ++ z) ++ w ≡ q ++ (r ++ (z ++ w)) = rw (append_assoc q (r ++ z) w, append_assoc r z w) in
    ap past (append_assoc p (q ++ (r ++ z)) w) ∙ past_is (q ++ (r ++ z) ++ w) refl a ∙ ap skip e ∙ string_skip (r ++ (z ++ w)) b

values_mark : (p q r z w : List ℕ) {cs : List ℕ} → Structural 0x5B p → String q cs → first (past (p ++ (q ++ (r ++ z)) ++ w)) ≡ 0x22
values_mark p q r z w a b = ap first (values_past p q r z w a b) ∙ string_first (r ++ (z ++ w)) b

array_one : {p q : List ℕ} {css dss : List (List ℕ)} (v w : List ℕ) → Array p css → Array q dss → skip (p ++ v) ≡ skip (q ++ w) → css ≡ dss
array_one v w (empty a b) (empty c d) e = refl
array_one v w (empty {p} {z} a b) (values {p = p'} {q} {r} {z = z'} c d f g) e =
    absurd (eqb-false 0x5D 0x22 refl (sym (empty_mark p z v a b) ∙ ap (λ (s : List ℕ). first (beyond s)) e ∙ values_mark p' q r z' w c d))
array_one v w (values {p = p'} {q} {r} {z = z'} c d f g) (empty {p} {z} a b) e =
    absurd (eqb-false 0x5D 0x22 refl (sym (empty_mark p z w a b) ∙ ap (λ (s : List ℕ). first (beyond s)) (sym e) ∙ values_mark p' q r z' v c d))
array_one v w (values {p} {q} {r} {z} a b c d) (values {p = p'} {q = q'} {r = r'} {z = z'} a' b' c' d') e =
    let f : q ++ (r ++ (z ++ v)) ≡ q' ++ (r' ++ (z' ++ w)) =
    sym (values_past p q r z v a b) ∙ ap beyond e ∙ values_past p' q' r' z' w a' b' in
    let s = string_one (r ++ (z ++ v)) (r' ++ (z' ++ w)) b b' f in
    joined s.0 (others_one d d' v w c c' (ap skip s.1))

-- the same characters are of the same strings
json_at : {s t : List ℕ} {css dss : List (List ℕ)} → JsonText s css → JsonText t dss → s ≡ t → css ≡ dss
json_at (json_text {p} {w} a b c) (json_text {p = p'} {w = w'} a' b' c') e =
    array_one w w' b b' (sym (skipped (p ++ w) a) ∙ ap skip e ∙ skipped (p' ++ w') a')

pub json_one : {s : List ℕ} {css dss : List (List ℕ)} → JsonText s css → JsonText s dss → css ≡ dss
json_one a b = json_at a b refl
