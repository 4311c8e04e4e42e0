-- The texts of rows, and the array's length at most.
use Prim.Native.Nat.{ℕ, zero, suc, ◌+◌, ◌*◌, ◌-◌, ◌≤◌, ◌<◌}
use mathlib.Core.Path.{◌≡◌, refl, sym, ap, ◌∙◌}
use mathlib.Core.List.{List, [], ◌∷◌}
use native.Mathlib.Nat.{add-zero}
use native.Mathlib.Omega.{arith}
use lib.ListN.{length, get_or, length-append}
use Rattle.hbc_table_bytes.specs.StringBytes.{string_bytes}
use Rattle.hbc_text.specs.StringText.{is_wide, string_text}
use Rattle.hbc_json_forms.specs.Json.{escaped, array}
use Rattle.hbc_json_forms.proofs.Array.{led, array_none, array_some, led_length}
use Rattle.hbc_json_text.proofs.Loops.{most}
use Rattle.hbc_json.specs.StringsJson.{texts_from, texts, strings_json}
use Rattle.hbc_claims_text.proofs.Row.{of_row}
use Rattle.hbc_claims_json.specs.Array.{Texts, none, more}
use Rattle.hbc_claims_json.specs.Rows.{ample, OfRows}
use Rattle.hbc_claims_json.proofs.Array.{of_texts}

module _ (s t : List ℕ) where
  many_from : (k n : ℕ) → length (texts_from s t k n) ≡ n
  unfolding texts_from
  many_from k zero = refl
  many_from k (suc n) = ap suc (many_from (suc k) n)

  each_from : (k n j : ℕ) → j < n → get_or (texts_from s t k n) j [] ≡ string_text s t (k + j)
  unfolding texts_from
  each_from k zero j h = absurd (omega arith)
  each_from k (suc n) zero h = ap (string_text s t) (sym (add-zero k))
  each_from k (suc n) (suc j) h = let e : suc k + j ≡ k + suc j = omega arith in each_from (suc k) n j (omega arith) ∙ ap (string_text s t) e

  all_texts : ((i : ℕ) → get_or s i 0 < 256) → (k n : ℕ) → Texts (texts_from s t k n)
  unfolding texts_from
  all_texts b k zero = none
  all_texts b k (suc n) = more (of_row s t k b).formed (all_texts b (suc k) n)

  -- one string has at most six times its bytes
  one_most : (k : ℕ) → length (escaped (string_text s t k)) ≤ 6 * length (string_bytes s t k)
  unfolding string_text
  one_most k = most (is_wide t k) (string_bytes s t k)

  -- the room is counted from the first row on, the array from the front: what n rows from row k on take
  room_from : (k n : ℕ) → ample s t k + length (led 0x2C (texts_from s t k n)) ≤ ample s t (k + n)
  unfolding texts_from led ample
  room_from k zero = rw (add-zero k) (omega arith)
  room_from k (suc n) =
      let e : suc k + n ≡ k + suc n = omega arith in
      rw (← e) (omega (arith, room_from (suc k) n, one_most k, led_length 0x2C (string_text s t k) (texts_from s t (suc k) n)))

  same_lead : (x : List ℕ) (xs : List (List ℕ)) → length (led 0x5B (x ∷ xs)) ≡ length (led 0x2C (x ∷ xs))
  same_lead x xs = led_length 0x5B x xs ∙ sym (led_length 0x2C x xs)

  most_all : (n : ℕ) → length (array (texts_from s t 0 n)) ≤ ample s t n
  unfolding texts_from ample
  most_all zero = rw array_none (omega arith)
  most_all (suc n) =
      let x : List ℕ = string_text s t 0 in
      let xs : List (List ℕ) = texts_from s t 1 n in
      let a : length (array (x ∷ xs)) ≡ length (led 0x5B (x ∷ xs)) + 1 = ap length (array_some x xs) ∙ length-append (led 0x5B (x ∷ xs)) (0x5D ∷ []) in
      let r : 2 + length (led 0x2C (x ∷ xs)) ≤ ample s t (0 + suc n) = room_from 0 (suc n) in
      let z : 0 + suc n ≡ suc n = omega arith in
      omega (arith, a, same_lead x xs, rw z at r)

pub of_rows : (s t : List ℕ) (count : ℕ) → ((i : ℕ) → get_or s i 0 < 256) → OfRows s t count
unfolding texts strings_json
of_rows s t count b =
    record {
      many = many_from s t 0 count;
      each = λ k h. each_from s t 0 count k h ∙ ap (string_text s t) (omega arith);
      array = of_texts (texts_from s t 0 count) (all_texts s t b 0 count);
      most = most_all s t count;
    }
