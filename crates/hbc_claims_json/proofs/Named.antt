-- What a JSON text names are scalar values, so its strings are texts.
use Prim.Native.Nat.{ℕ, ◌≤◌, ◌<◌}
use mathlib.Core.Logic.{◌⊎◌, inl, inr}
use mathlib.Core.List.{List, [], ◌∷◌, ◌++◌}
use native.Mathlib.Omega.{arith}
use lib.Dec.{lit<}
use Rattle.hbc_text_forms.specs.Scalars.{Scalar, Scalars, none, more}
use Rattle.hbc_text_forms.specs.Utf16.{High, Low, Surrogate, pair_of}
use Rattle.hbc_text_forms.proofs.Codes.{split, formed_all}
use Rattle.hbc_claims_json.specs.Rfc8259.{Short, quotation_mark, reverse_solidus, solidus, backspace, form_feed, line_feed, carriage_return, tab}
use Rattle.hbc_claims_json.specs.Rfc8259.{HexDig, digit, upper, lower, Four, four, Char, unescaped, short, code, pair}
use Rattle.hbc_claims_json.specs.Rfc8259.{Chars, no_char, char, String, string}
use Rattle.hbc_claims_json.specs.Rfc8259.{Others, no_other, other, Array, empty, values, JsonText, json_text, encodings}
use Rattle.hbc_claims_json.specs.Array.{Texts}
use Rattle.hbc_claims_json.specs.Array as array
use Rattle.hbc_claims_json.proofs.Bytes.{parts}

hex_below : {c v : ℕ} → HexDig c v → v < 16
hex_below (digit h) = omega arith
hex_below (upper l h) = omega arith
hex_below (lower l h) = omega arith

four_below : {p : List ℕ} {u : ℕ} → Four p u → u < 0x10000
four_below (four a b c d) = omega (arith, hex_below a, hex_below b, hex_below c, hex_below d)

no_surrogate : {u : ℕ} → u < 0x10000 → (Surrogate u → ⊥) → (u < 0xD800) ⊎ (0xD800 ≤ u) → (u < 0xDC00) ⊎ (0xDC00 ≤ u) → (u < 0xE000) ⊎ (0xE000 ≤ u) → Scalar u
no_surrogate h f (inl a) _ _ = inl a
no_surrogate h f (inr a) (inl b) _ = absurd (f (inl (a, omega arith)))
no_surrogate h f (inr a) (inr b) (inl c) = absurd (f (inr (b, omega arith)))
no_surrogate h f (inr a) (inr b) (inr c) = inr (c, omega arith)

pair_scalar : {h l : ℕ} → High h → Low l → Scalar (pair_of h l)
unfolding pair_of
pair_scalar h l = inr (omega arith, omega arith)

short_scalar : {c v : ℕ} → Short c v → Scalar v
short_scalar quotation_mark = inl (lit< tt)
short_scalar reverse_solidus = inl (lit< tt)
short_scalar solidus = inl (lit< tt)
short_scalar backspace = inl (lit< tt)
short_scalar form_feed = inl (lit< tt)
short_scalar line_feed = inl (lit< tt)
short_scalar carriage_return = inl (lit< tt)
short_scalar tab = inl (lit< tt)

char_scalar : {p : List ℕ} {c : ℕ} → Char p c → Scalars p → Scalar c
char_scalar (unescaped h) (more k ks) = k
char_scalar (short h) ks = short_scalar h
char_scalar (code {u} h f) ks = no_surrogate (four_below h) f (split u 0xD800) (split u 0xDC00) (split u 0xE000)
char_scalar (pair a h b l) ks = pair_scalar h l

chars_scalar : {p cs : List ℕ} → Chars p cs → Scalars p → Scalars cs
chars_scalar no_char ks = none
chars_scalar (char {p} {q} a b) ks = let r = parts p q ks in more (char_scalar a r.0) (chars_scalar b r.1)

string_scalar : {p cs : List ℕ} → String p cs → Scalars p → Scalars cs
string_scalar (string {p} a) (more k ks) = chars_scalar a (parts p (0x22 ∷ []) ks).0

others_texts : {p : List ℕ} {css : List (List ℕ)} → Others p css → Scalars p → Texts (encodings css)
unfolding encodings
others_texts no_other ks = array.none
others_texts (other {p} {q} {r} a b c) ks =
    let s = parts q r (parts p (q ++ r) ks).1 in
    array.more (formed_all (string_scalar b s.0)) (others_texts c s.1)

array_texts : {p : List ℕ} {css : List (List ℕ)} → Array p css → Scalars p → Texts (encodings css)
unfolding encodings
array_texts (empty a b) ks = array.none
array_texts (values {p} {q} {r} {z} a b c d) ks =
    let s = parts q (r ++ z) (parts p (q ++ (r ++ z)) ks).1 in
    array.more (formed_all (string_scalar b s.0)) (others_texts c (parts r z s.1).0)

pub json_texts : {s : List ℕ} {css : List (List ℕ)} → JsonText s css → Scalars s → Texts (encodings css)
json_texts (json_text {v} {p} {w} a b c) ks = array_texts b (parts p w (parts v (p ++ w) ks).1).0
