-- The output is a JSON text of its strings. Escaping goes by bytes; it is the same on characters, since only ASCII is escaped.
use Prim.Native.Nat.{ℕ, ◌+◌, ◌*◌, ◌/◌, ◌%◌, ◌≤◌, ◌<◌}
use mathlib.Core.Path.{◌≡◌, refl, sym, ap, ◌∙◌}
use mathlib.Core.Logic.{◌⊎◌, inl, inr}
use mathlib.Core.List.{List, [], ◌∷◌, ◌++◌, append_assoc, append-nil}
use native.Mathlib.Omega.{arith}
use lib.Dec.{lit<}
use borrow.Author.Tests.{lt-ltb, le-ltb, ne_eqb}
use Rattle.hbc_text_forms.specs.Scalars.{Scalar, encode, encode_all, Scalars, none, more}
use Rattle.hbc_text_forms.specs.Utf16.{Surrogate}
use Rattle.hbc_text_forms.proofs.Codes.{split, encode_1, encode_2, encode_3, encode_4}
use Rattle.hbc_json_forms.specs.Json.{hex_digit, escape, escaped, quoted, commas, listed, array}
use Rattle.hbc_claims_json.specs.Rfc8259.{no_blank, Structural, around}
use Rattle.hbc_claims_json.specs.Rfc8259.{quotation_mark, reverse_solidus}
use Rattle.hbc_claims_json.specs.Rfc8259.{HexDig, digit, lower, four, Unescaped, Char, unescaped, short, code}
use Rattle.hbc_claims_json.specs.Rfc8259.{Chars, no_char, char, String, string}
use Rattle.hbc_claims_json.specs.Rfc8259.{Others, no_other, other, Array, empty, values, JsonText, json_text, encodings, Reads}
use Rattle.hbc_claims_json.specs.Array.{Texts}
use Rattle.hbc_claims_json.specs.Array as texts
use Rattle.hbc_claims_json.proofs.Bytes as bytes
use Rattle.hbc_claims_json.proofs.Bytes.{joined, both, encode_both, ascii}
use Rattle.hbc_claims_json.proofs.Reader.{no_escape, no_mark}

-- ---- what becomes of a character

data Kind : ℕ → Type 0 where
  mark : Kind 0x22
  slash : Kind 0x5C
  control : {c : ℕ} → c < 0x20 → Kind c
  plain : {c : ℕ} → Unescaped c → c < 0x80 → Kind c
  high : {c : ℕ} → 0x80 ≤ c → c ≤ 0x10FFFF → Kind c

kind_at : (c : ℕ) → c ≤ 0x10FFFF → (c < 0x20) ⊎ (0x20 ≤ c) → (c < 0x22) ⊎ (0x22 ≤ c) → (c < 0x23) ⊎ (0x23 ≤ c)
    → (c < 0x5C) ⊎ (0x5C ≤ c) → (c < 0x5D) ⊎ (0x5D ≤ c) → (c < 0x80) ⊎ (0x80 ≤ c) → Kind c
kind_at c h (inl a) _ _ _ _ _ = control a
kind_at c h (inr a) (inl b) _ _ _ _ = plain (inl (a, omega arith)) (omega arith)
kind_at c h (inr a) (inr b) (inl d) _ _ _ = let e : c ≡ 0x22 = omega arith in rw e mark
kind_at c h (inr a) (inr b) (inr d) (inl f) _ _ = plain (inr (inl (d, omega arith))) (omega arith)
kind_at c h (inr a) (inr b) (inr d) (inr f) (inl g) _ = let e : c ≡ 0x5C = omega arith in rw e slash
kind_at c h (inr a) (inr b) (inr d) (inr f) (inr g) (inl k) = plain (inr (inr (g, h))) k
kind_at c h (inr a) (inr b) (inr d) (inr f) (inr g) (inr k) = high k h

below : {c : ℕ} → Scalar c → c ≤ 0x10FFFF
below (inl h) = omega arith
below (inr h) = omega arith

kind : {c : ℕ} → Scalar c → Kind c
kind {c} h = kind_at c (below h) (split c 0x20) (split c 0x22) (split c 0x23) (split c 0x5C) (split c 0x5D) (split c 0x80)

-- ---- escapes

no_control : {c : ℕ} → Unescaped c → 0x20 ≤ c
no_control (inl h) = h.0
no_control (inr (inl h)) = omega arith
no_control (inr (inr h)) = omega arith

escape_self : (c : ℕ) → 0x20 ≤ c → (c ≡ 0x22 → ⊥) → (c ≡ 0x5C → ⊥) → escape c ≡ c ∷ []
unfolding escape
escape_self c h f g = rw (ne_eqb c 0x22 f, ne_eqb c 0x5C g, le-ltb c 0x20 h)

escape_plain : (c : ℕ) → Unescaped c → escape c ≡ c ∷ []
escape_plain c h = escape_self c (no_control h) (no_mark h) (no_escape h)

escape_high : (c : ℕ) → 0x80 ≤ c → escape c ≡ c ∷ []
escape_high c h = escape_self c (omega arith) (λ e. omega arith) (λ e. omega arith)

escape_control : (c : ℕ) → c < 0x20 → escape c ≡ 0x5C ∷ 0x75 ∷ 0x30 ∷ 0x30 ∷ hex_digit (c / 16) ∷ hex_digit (c % 16) ∷ []
unfolding escape
escape_control c h =
    let f : c ≡ 0x22 → ⊥ = λ e. omega arith in
    let g : c ≡ 0x5C → ⊥ = λ e. omega arith in
    rw (ne_eqb c 0x22 f, ne_eqb c 0x5C g, lt-ltb c 0x20 h)

-- ---- hex digits

hex_at : (d : ℕ) → d < 16 → (d < 10) ⊎ (10 ≤ d) → HexDig (hex_digit d) d
hex_at d h (inl a) = rw (lt-ltb d 10 a) (digit a)
hex_at d h (inr a) = rw (le-ltb d 10 a) (lower a h)

hex_digit_lem : (d : ℕ) → d < 16 → HexDig (hex_digit d) d
hex_digit_lem d h = hex_at d h (split d 10)

hex_small_at : (d : ℕ) → d < 16 → (d < 10) ⊎ (10 ≤ d) → hex_digit d < 0x80
hex_small_at d h (inl a) = rw (lt-ltb d 10 a) (omega arith)
hex_small_at d h (inr a) = rw (le-ltb d 10 a) (omega arith)

hex_small : (d : ℕ) → d < 16 → hex_digit d < 0x80
hex_small d h = hex_small_at d h (split d 10)

-- ---- an escape is a char of what it escapes

unit_char : (c : ℕ) → c < 0x20 → Char (0x5C ∷ 0x75 ∷ 0x30 ∷ 0x30 ∷ hex_digit (c / 16) ∷ hex_digit (c % 16) ∷ []) c
unit_char c h =
    let e : ((0 * 16 + 0) * 16 + c / 16) * 16 + c % 16 ≡ c = omega arith in
    let z : HexDig 0x30 0 = digit {d = 0} (lit< tt) in
    rw e at (code (four z z (hex_digit_lem (c / 16) (omega arith)) (hex_digit_lem (c % 16) (omega arith))) no)
  where
    no : Surrogate (((0 * 16 + 0) * 16 + c / 16) * 16 + c % 16) → ⊥
    no (inl s) = omega arith
    no (inr s) = omega arith

escape_char : {c : ℕ} → Kind c → Char (escape c) c
unfolding escape
escape_char mark = short quotation_mark
escape_char slash = short reverse_solidus
escape_char (control {c} h) = rw (escape_control c h) (unit_char c h)
escape_char (plain {c} h k) = rw (escape_plain c h) (unescaped h)
escape_char (high {c} h k) = rw (escape_high c h) (unescaped {c = c} (inr (inr (omega arith, k))))

escaped_chars : {cs : List ℕ} → Scalars cs → Chars (escaped cs) cs
unfolding escaped
escaped_chars none = no_char
escaped_chars (more h hs) = char (escape_char (kind h)) (escaped_chars hs)

-- ---- of scalar values, and UTF-8 of it is the escape of UTF-8

small : {c : ℕ} {cs : List ℕ} → c < 0x80 → Scalars cs → Scalars (c ∷ cs)
small {c} h hs = more {c = c} (inl (omega arith)) hs

escape_scalars : {c : ℕ} → Scalar c → Kind c → Scalars (escape c)
unfolding escape
escape_scalars s mark = small (lit< tt) (small (lit< tt) none)
escape_scalars s slash = small (lit< tt) (small (lit< tt) none)
escape_scalars s (control {c} h) =
    let x : hex_digit (c / 16) < 0x80 = hex_small (c / 16) (omega arith) in
    let y : hex_digit (c % 16) < 0x80 = hex_small (c % 16) (omega arith) in
    rw (escape_control c h)
    (small (lit< tt) (small (lit< tt) (small (lit< tt) (small (lit< tt) (small x (small y none))))))
escape_scalars s (plain {c} h k) = rw (escape_plain c h) (more s none)
escape_scalars s (high {c} h k) = rw (escape_high c h) (more s none)

escaped_scalars : {cs : List ℕ} → Scalars cs → Scalars (escaped cs)
unfolding escaped
escaped_scalars none = none
escaped_scalars (more h hs) = both (escape_scalars h (kind h)) (escaped_scalars hs)

escaped_both : (s t : List ℕ) → escaped (s ++ t) ≡ escaped s ++ escaped t
unfolding escaped
escaped_both [] t = refl
escaped_both (b ∷ s) t = rw (escaped_both s t) (sym (append_assoc (escape b) (escaped s) (escaped t)))

-- bytes that are escaped as they are
high_bytes : (c : ℕ) → 0x80 ≤ c → (c < 0x800) ⊎ (0x800 ≤ c) → (c < 0x10000) ⊎ (0x10000 ≤ c) → escaped (encode c) ≡ encode c
unfolding escaped
high_bytes c l (inl h) _ =
    let a : 0x80 ≤ 0xC0 + c / 64 = omega arith in
    let b : 0x80 ≤ 0x80 + c % 64 = omega arith in
    rw (encode_2 c l h, escape_high _ a, escape_high _ b)
high_bytes c l (inr k) (inl h) =
    let a : 0x80 ≤ 0xE0 + c / 4096 = omega arith in
    let b : 0x80 ≤ 0x80 + c / 64 % 64 = omega arith in
    let d : 0x80 ≤ 0x80 + c % 64 = omega arith in
    rw (encode_3 c k h, escape_high _ a, escape_high _ b, escape_high _ d)
high_bytes c l (inr _) (inr k) =
    let a : 0x80 ≤ 0xF0 + c / 262144 = omega arith in
    let b : 0x80 ≤ 0x80 + c / 4096 % 64 = omega arith in
    let d : 0x80 ≤ 0x80 + c / 64 % 64 = omega arith in
    let e : 0x80 ≤ 0x80 + c % 64 = omega arith in
    rw (encode_4 c k, escape_high _ a, escape_high _ b, escape_high _ d, escape_high _ e)

escape_one : (c : ℕ) → c < 0x80 → encode_all (escape c) ≡ escape c → escaped (encode c) ≡ encode_all (escape c)
unfolding escaped
escape_one c h e = rw (encode_1 c h, e) (append-nil (escape c))

kept : (c : ℕ) {p : List ℕ} → c < 0x80 → encode_all p ≡ p → encode_all (c ∷ p) ≡ c ∷ p
kept c {p} h e = ascii c p h ∙ ap (λ (s : List ℕ). c ∷ s) e

kept_none : encode_all [] ≡ []
unfolding encode_all
kept_none = refl

encode_alone : (c : ℕ) → encode_all (c ∷ []) ≡ encode c
unfolding encode_all
encode_alone c = append-nil (encode c)

kept_control : (c : ℕ) → c < 0x20 → encode_all (escape c) ≡ escape c
kept_control c h =
    let a = kept (hex_digit (c / 16)) (hex_small (c / 16) (omega arith)) (kept (hex_digit (c % 16)) (hex_small (c % 16) (omega arith)) kept_none) in
    rw (escape_control c h) (kept 0x5C (lit< tt) (kept 0x75 (lit< tt) (kept 0x30 (lit< tt) (kept 0x30 (lit< tt) a))))

encode_escape : {c : ℕ} → Kind c → escaped (encode c) ≡ encode_all (escape c)
unfolding escape
encode_escape mark = escape_one 0x22 (lit< tt) (kept 0x5C (lit< tt) (kept 0x22 (lit< tt) kept_none))
encode_escape slash = escape_one 0x5C (lit< tt) (kept 0x5C (lit< tt) (kept 0x5C (lit< tt) kept_none))
encode_escape (control {c} h) = escape_one c (omega arith) (kept_control c h)
encode_escape (plain {c} h k) = escape_one c k (rw (escape_plain c h) (kept c k kept_none))
encode_escape (high {c} h k) = rw (escape_high c h) (high_bytes c h (split c 0x800) (split c 0x10000) ∙ sym (encode_alone c))

encode_escaped : {cs : List ℕ} → Scalars cs → escaped (encode_all cs) ≡ encode_all (escaped cs)
unfolding escaped encode_all
encode_escaped none = refl
encode_escaped (more {c} {cs} h hs) =
    escaped_both (encode c) (encode_all cs)
    ∙ rw (encode_escape (kind h), encode_escaped hs) (sym (encode_both (escape c) (escaped cs)))

-- ---- strings

quoted_string : {cs : List ℕ} → Scalars cs → String (quoted cs) cs
unfolding quoted
quoted_string h = string (escaped_chars h)

quoted_scalars : {cs : List ℕ} → Scalars cs → Scalars (quoted cs)
unfolding quoted
quoted_scalars h = small (lit< tt) (both (escaped_scalars h) (small (lit< tt) none))

encode_quoted : {cs : List ℕ} → Scalars cs → quoted (encode_all cs) ≡ encode_all (quoted cs)
unfolding quoted
encode_quoted {cs} h =
    rw (ascii 0x22 (escaped cs ++ (0x22 ∷ [])) (lit< tt), encode_both (escaped cs) (0x22 ∷ []), kept 0x22 (lit< tt) kept_none, encode_escaped h)

-- ---- lists of them

data Lists : List (List ℕ) → Type 0 where
  no_list : Lists []
  list : {cs : List ℕ} {css : List (List ℕ)} → Scalars cs → Lists css → Lists (cs ∷ css)

-- a structural character without white space
bare : (c : ℕ) → Structural c (c ∷ [])
bare c = around no_blank no_blank

commas_others : {css : List (List ℕ)} → Lists css → Others (commas css) css
unfolding commas
commas_others no_list = no_other
commas_others (list h hs) = other (bare 0x2C) (quoted_string h) (commas_others hs)

commas_scalars : {css : List (List ℕ)} → Lists css → Scalars (commas css)
unfolding commas
commas_scalars no_list = none
commas_scalars (list h hs) = small (lit< tt) (both (quoted_scalars h) (commas_scalars hs))

encode_commas : {css : List (List ℕ)} → Lists css → commas (encodings css) ≡ encode_all (commas css)
unfolding commas encodings
encode_commas no_list = sym kept_none
encode_commas (list {cs} {css} h hs) =
    rw (ascii 0x2C (quoted cs ++ commas css) (lit< tt), encode_both (quoted cs) (commas css), encode_quoted h, encode_commas hs)

listed_scalars : {css : List (List ℕ)} → Lists css → Scalars (listed css)
unfolding listed
listed_scalars no_list = none
listed_scalars (list h hs) = both (quoted_scalars h) (commas_scalars hs)

encode_listed : {css : List (List ℕ)} → Lists css → listed (encodings css) ≡ encode_all (listed css)
unfolding listed encodings
encode_listed no_list = sym kept_none
encode_listed (list {cs} {css} h hs) = rw (encode_both (quoted cs) (commas css), encode_quoted h, encode_commas hs)

-- ---- the array

array_is : {css : List (List ℕ)} → Lists css → Array (array css) css
unfolding array listed
array_is no_list = empty (bare 0x5B) (bare 0x5D)
array_is (list {cs} {css} h hs) =
    rw (append_assoc (quoted cs) (commas css) (0x5D ∷ [])) (values (bare 0x5B) (quoted_string h) (commas_others hs) (bare 0x5D))

array_json : {css : List (List ℕ)} → Lists css → JsonText (array css) css
array_json {css} h = rw (append-nil (array css)) at (json_text no_blank (array_is h) no_blank)

array_scalars : {css : List (List ℕ)} → Lists css → Scalars (array css)
unfolding array
array_scalars h = small (lit< tt) (both (listed_scalars h) (small (lit< tt) none))

encode_array : {css : List (List ℕ)} → Lists css → array (encodings css) ≡ encode_all (array css)
unfolding array
encode_array {css} h =
    rw (ascii 0x5B (listed css ++ (0x5D ∷ [])) (lit< tt), encode_both (listed css) (0x5D ∷ []), kept 0x5D (lit< tt) kept_none, encode_listed h)

-- ---- of texts

record Listing (ts : List (List ℕ)) : Type 0 where
  strings : List (List ℕ)
  scalar : Lists strings
  is : ts ≡ encodings strings

listing : {ts : List (List ℕ)} → Texts ts → Listing ts
unfolding encodings
listing texts.none = record { strings = []; scalar = no_list; is = refl }
listing (texts.more w ws) =
    let v = bytes.values w in
    let l = listing ws in
    record { strings = v.list ∷ l.strings; scalar = list v.scalar l.scalar; is = joined v.is l.is }

-- the RFC reads the output of texts as these
pub array_reads : {ts : List (List ℕ)} → Texts ts → Reads (array ts) ts
array_reads w =
    let l = listing w in
    record {
      characters = array l.strings;
      scalar = array_scalars l.scalar;
      encoded = ap array l.is ∙ encode_array l.scalar;
      strings = l.strings;
      is = array_json l.scalar;
      names = l.is;
    }
