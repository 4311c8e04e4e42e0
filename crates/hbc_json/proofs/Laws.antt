-- The array string by string: measured, written, and the ways out of the call.
use Prim.Native.Nat.{ℕ, zero, suc, ◌+◌, ◌*◌, ◌-◌, ◌≤◌, ◌<◌}
use mathlib.Core.Path.{◌≡◌, refl, sym, ap, ◌∙◌}
use mathlib.Core.List.{List, [], ◌∷◌, ◌++◌, append_assoc}
use mathlib.Core.Bool.{Bool, true, false}
use native.Mathlib.Numerals.{add-one}
use native.Mathlib.Omega.{arith}
use lib.ListN.{length, take, drop, set, length-append}
use lib.Dec.{leb}
use lib.Seq.{sets}
use borrow.Author.Tests.{le-leb, lt-leb, leb-true, leb-false}
use borrow.Rule.Slice.PartMut.{put_mid}
use Rattle.std.specs.Prelude.{Result, Ok, Err}
use Rattle.std.specs.Result.{result_unwrap_or}
use Rattle.hbc_io.specs.declared.Refusal.{Refusal}
use Rattle.hbc_io.specs.Outcome.{limit, refusal_at}
use Rattle.hbc_io.specs.Answer.{gives, refuses}
use Rattle.hbc_io.specs.Plain.{span_in, part_of}
use Rattle.hbc_io.proofs.Exits.{stop, past, given}
use Rattle.hbc_io.specs.Answers.{answered}
use Rattle.hbc_rows.specs.Rows.{rows}
use Rattle.hbc_table_strings.specs.Row.{string_width}
use Rattle.hbc_table_bytes.specs.StringBytes.{span_at, string_bytes}
use Rattle.hbc_text_forms.specs.Text.{text_answer, put_answer, over, PutText}
use Rattle.hbc_text_forms.proofs.Exits.{of_bytes}
use Rattle.hbc_text_forms.proofs.Counting.{Counting, count_all, count_more}
use Rattle.hbc_text_forms.proofs.Writing.{Writing, write_first, write_all, write_end, write_length, write_room, write_more}
use Rattle.hbc_text.specs.StringText.{is_wide, string_text}
use Rattle.hbc_text.proofs.Laws.{part_short}
use Rattle.hbc_json_forms.specs.Json.{escaped, array, text_in}
use Rattle.hbc_json_forms.proofs.Array.{led, array_none, array_some, led_cons}
use Rattle.hbc_json_text.proofs.Parts.{two_set, piece_given}
use Rattle.hbc_json_text.proofs.Loops.{most}
use Rattle.hbc_json.specs.StringsJson.{texts_from, texts, strings_json, strings_json_answer, StringsJson}
use Rattle.hbc_json.specs.Private.{inside}

pub positive : {n : ℕ} → (n ≡ 0 → ⊥) → 0 < n
positive {n} h = omega arith

-- ---- one string

pub bytes_few : (s t : List ℕ) (k : ℕ) {b : List ℕ} → b ≡ part_of s (span_at t k) → length s ≤ limit → length b ≤ limit
bytes_few s t k e l = rw e (omega (arith, part_short (span_in s (span_at t k)).len (span_in s (span_at t k)).start s))

module _ (s t : List ℕ) (k : ℕ) {w : Bool} {b : List ℕ} (m : w ≡ is_wide t k) (e : b ≡ part_of s (span_at t k)) where
  inside_is : escaped (text_in w b) ≡ inside s t k
  unfolding inside string_text string_bytes
  inside_is = rw (m, e)

  few : length s ≤ limit → length b ≤ limit
  few l = bytes_few s t k e l

  pub inside_most : length (inside s t k) ≤ 6 * length b
  inside_most = rw (← inside_is) (most w b)

  pub inside_says : length s ≤ limit → (room : ℕ) (r : Result ℕ Refusal) → answered r ≡ put_answer (escaped (text_in w b)) b room → answered r ≡ text_answer (inside s t k) room
  inside_says l room r v = v ∙ sym (of_bytes (escaped (text_in w b)) room b (few l) refl) ∙ ap (λ (x : List ℕ). text_answer x room) inside_is

  module _ (l : length s ≤ limit) (d : List ℕ) (n : ℕ) (room : n + length (inside s t k) ≤ length d) {r : Result ℕ Refusal} {after : List ℕ}
      (v : PutText (escaped (text_in w b)) b (take (length d - n) (drop n d)) r after) where
    room_in : n + length (escaped (text_in w b)) ≤ length d
    room_in = rw inside_is room

    pub inside_put : (result_unwrap_or r 0 ≡ length (inside s t k)) × (put_mid n (length d - n) d after ≡ sets d n (inside s t k))
    inside_put = rw (← inside_is) (piece_given (escaped (text_in w b)) b d n (few l) room_in v)

-- ---- the strings from one on

module _ (s t : List ℕ) (count : ℕ) where
  abbrev left : ℕ → List (List ℕ)
  left k = texts_from s t k (count - k)

  left_more : (k : ℕ) → k < count → left k ≡ string_text s t k ∷ left (k + 1)
  unfolding texts_from
  left_more k h =
      let e : count - k ≡ suc (count - (k + 1)) = omega arith in
      ap (λ (j : ℕ). texts_from s t k j) e ∙ rw (← add-one k)

  left_none : (k : ℕ) → count ≤ k → left k ≡ []
  unfolding texts_from
  left_none k h = let e : count - k ≡ 0 = omega arith in rw e

  left_all : left 0 ≡ texts s t count
  unfolding texts
  left_all = let e : count - 0 ≡ count = omega arith in rw e

  -- what is written for them, each with what stands before it
  unfoldable pub led_from : ℕ → ℕ → List ℕ
  led_from sep k = led sep (left k)

  pub led_more : (sep k : ℕ) → k < count → led_from sep k ≡ sep ∷ 0x22 ∷ (inside s t k ++ (0x22 ∷ led_from 0x2C (k + 1)))
  unfolding led_from inside
  led_more sep k h = ap (λ (x : List (List ℕ)). led sep x) (left_more k h) ∙ led_cons sep (string_text s t k) (left (k + 1))

  pub led_none : (sep k : ℕ) → count ≤ k → led_from sep k ≡ []
  unfolding led_from led
  led_none sep k h = ap (λ (x : List (List ℕ)). led sep x) (left_none k h)

  more_length : (sep k : ℕ) → k < count → length (led_from sep k) ≡ 3 + length (inside s t k) + length (led_from 0x2C (k + 1))
  more_length sep k h = ap length (led_more sep k h) ∙ omega (arith, length-append (inside s t k) (0x22 ∷ led_from 0x2C (k + 1)))

  -- the array is those from the first on, and a bracket
  pub json_some : 0 < count → strings_json s t count ≡ led_from 0x5B 0 ++ (0x5D ∷ [])
  unfolding strings_json led_from
  json_some h =
      ap array (sym left_all ∙ left_more 0 h) ∙ array_some (string_text s t 0) (left 1)
      ∙ ap (λ (x : List (List ℕ)). led 0x5B x ++ (0x5D ∷ [])) (sym (left_more 0 h))

  pub json_none : count ≡ 0 → strings_json s t count ≡ 0x5B ∷ 0x5D ∷ []
  unfolding strings_json texts texts_from
  json_none e = rw e array_none

  same_length : (k : ℕ) (h : k < count) → length (led_from 0x5B k) ≡ length (led_from 0x2C k)
  same_length k h = more_length 0x5B k h ∙ sym (more_length 0x2C k h)

  some_length : 0 < count → length (strings_json s t count) ≡ 1 + length (led_from 0x2C 0)
  some_length h = ap length (json_some h) ∙ length-append (led_from 0x5B 0) (0x5D ∷ []) ∙ rw (same_length 0 h) (omega arith)

  -- ---- ample: if what is left takes no more, the array fits

  pub record Ample (room more k : ℕ) : Type 0 where
    pub fits : length (led_from 0x2C k) ≤ more → length (strings_json s t count) ≤ room

  ample_at : (room : ℕ) → 2 ≤ room → (n : ℕ) → n ≡ count → length (led_from 0x2C 0) ≤ room - 2 → length (strings_json s t count) ≤ room
  ample_at room h zero e l = omega (arith, ap length (json_none (sym e)))
  ample_at room h (suc n) e l = omega (arith, some_length (omega arith))

  pub ample_first : (room : ℕ) → 2 ≤ room → Ample room (room - 2) 0
  ample_first room h = record { fits = ample_at room h count refl }

  pub ample_more : (room more k : ℕ) → Ample room more k → k < count → (n : ℕ) → length (inside s t k) + 3 ≤ n → n ≤ more → Ample room (more - n) (k + 1)
  ample_more room more k a h n l m = record { fits = λ q. a.fits (omega (arith, more_length 0x2C k h)) }

  pub ample_end : (room more k : ℕ) → Ample room more k → count ≤ k → length (strings_json s t count) ≤ room
  ample_end room more k a h = a.fits (rw (led_none 0x2C k h) (omega arith))

  -- ---- measured

  pub record Measuring (room n k : ℕ) : Type 0 where
    pub counting : Counting (length (strings_json s t count)) room n (length (led_from 0x2C k))

  pub none_fits : (room : ℕ) → count ≡ 0 → leb 2 room ≡ leb (length (strings_json s t count)) room
  none_fits room e = ap (λ (k : ℕ). leb k room) (sym (ap length (json_none e)))

  pub no_room : (room : ℕ) → 0 < count → room ≡ 0 → false ≡ leb (length (strings_json s t count)) room
  no_room room h e = sym (lt-leb (length (strings_json s t count)) room (omega (arith, some_length h)))

  pub measure_first : (room : ℕ) → 0 < count → 0 < room → Measuring room 1 0
  measure_first room h l = record { counting = record { fits = l; sum = sym (some_length h) } }

  module _ (room n k : ℕ) (m : Measuring room n k) where
    pub measure_end : count ≤ k → true ≡ leb (length (strings_json s t count)) room
    measure_end h = sym (le-leb _ _ (count_all m.counting (ap length (led_none 0x2C k h))).1)

    module _ (h : k < count) where
      pub long_marks : room - n < 3 → false ≡ leb (length (strings_json s t count)) room
      long_marks l = sym (lt-leb (length (strings_json s t count)) room (omega (arith, m.counting.sum, more_length 0x2C k h)))

      pub long_inside : 3 ≤ room - n → room - n - 3 < length (inside s t k) → false ≡ leb (length (strings_json s t count)) room
      long_inside l o = sym (lt-leb (length (strings_json s t count)) room (omega (arith, m.counting.sum, more_length 0x2C k h)))

      pub measure_more : 3 ≤ room - n → {j : ℕ} → j ≡ length (inside s t k) → length (inside s t k) ≤ room - n - 3 → Measuring room (n + (3 + j)) (k + 1)
      measure_more l q o = record { counting = rw q (count_more m.counting (3 + length (inside s t k)) (length (led_from 0x2C (k + 1))) (more_length 0x2C k h) (omega arith)) }

  -- ---- written

  rest_as : {before r q d : List ℕ} {n : ℕ} → Writing (strings_json s t count) before n r d → r ≡ q → Writing (strings_json s t count) before n q d
  rest_as w e = record { room = w.room; counted = w.counted; so_far = w.so_far; left = w.left ∙ e }

  -- so much of the array stands, and before the next string lead is put
  pub record Putting (before : List ℕ) (lead n k : ℕ) (d : List ℕ) : Type 0 where
    pub put : Writing (strings_json s t count) before n (led_from lead k ++ (0x5D ∷ [])) d

  pub put_first : (before : List ℕ) → 0 < count → length (strings_json s t count) ≤ length before → Putting before 0x5B 0 0 before
  put_first before h l = record { put = rest_as (write_first (strings_json s t count) before l) (json_some h) }

  module _ (before : List ℕ) (lead n k : ℕ) {d : List ℕ} (p : Putting before lead n k d) where
    pub put_length : length d ≡ length before
    put_length = write_length _ _ _ p.put

    -- what stands behind the string's own bytes
    abbrev behind : List ℕ
    behind = (0x22 ∷ []) ++ (led_from 0x2C (k + 1) ++ (0x5D ∷ []))

    module _ (h : k < count) where
      opened : Writing (strings_json s t count) before n ((lead ∷ 0x22 ∷ []) ++ (inside s t k ++ behind)) d
      opened = rest_as p.put
          (ap (λ (x : List ℕ). x ++ (0x5D ∷ [])) (led_more lead k h)
          ∙ ap (λ (x : List ℕ). lead ∷ 0x22 ∷ x) (append_assoc (inside s t k) (0x22 ∷ led_from 0x2C (k + 1)) (0x5D ∷ [])))

      pub put_room : n + (3 + length (inside s t k)) < length d
      put_room =
          omega (arith, write_room _ _ _ opened, length-append (inside s t k) behind, length-append (led_from 0x2C (k + 1)) (0x5D ∷ []))

      -- the lead and the quote
      begun : Writing (strings_json s t count) before (n + 2) (inside s t k ++ behind) (set (set d n lead) (n + 1) 0x22)
      begun = rw (two_set d n lead 0x22) (write_more _ _ _ (lead ∷ 0x22 ∷ []) opened)

      pub begun_room : n + 2 + length (inside s t k) ≤ length (set (set d n lead) (n + 1) 0x22)
      begun_room = omega (arith, write_room _ _ _ begun, length-append (inside s t k) behind)

      module _ {m : ℕ} {x : List ℕ} (q : m ≡ length (inside s t k)) (a : x ≡ sets (set (set d n lead) (n + 1) 0x22) (n + 2) (inside s t k)) where
        filled : Writing (strings_json s t count) before (n + 2 + m) behind x
        filled = rw (q, a) (write_more _ _ _ (inside s t k) begun)

        pub filled_length : length x ≡ length before
        filled_length = write_length _ _ _ filled

        pub filled_room : n + 2 + m < length x
        filled_room = omega (arith, write_room _ _ _ filled, length-append (led_from 0x2C (k + 1)) (0x5D ∷ []))

        pub put_more : Putting before 0x2C (n + (3 + m)) (k + 1) (set x (n + 2 + m) 0x22)
        put_more =
            let e : n + 2 + m + 1 ≡ n + (3 + m) = omega arith in
            record { put = rw e at (write_more _ _ _ (0x22 ∷ []) filled) }

    module _ (h : count ≤ k) where
      closing : Writing (strings_json s t count) before n ((0x5D ∷ []) ++ []) d
      closing = rest_as p.put (ap (λ (x : List ℕ). x ++ (0x5D ∷ [])) (led_none lead k h))

      pub close_room : n < length d
      close_room = omega (arith, write_room _ _ _ closing)

      closed : Writing (strings_json s t count) before (n + 1) [] (set d n 0x5D)
      closed = write_more _ _ _ (0x5D ∷ []) closing

      pub closed_length : length (set d n 0x5D) ≡ length before
      closed_length = write_length _ _ _ closed

      pub put_end : (n + 1 ≡ length (strings_json s t count)) × (set d n 0x5D ≡ over (strings_json s t count) before)
      put_end = (write_all _ _ _ closed, write_end _ _ _ closed)

  -- no strings
  module _ (before : List ℕ) (e : count ≡ 0) (l : length (strings_json s t count) ≤ length before) where
    pub none_room : 2 ≤ length before
    none_room = rw (json_none e) at l

    none_done : Writing (strings_json s t count) before 2 [] (sets before 0 (0x5B ∷ 0x5D ∷ []))
    none_done = write_more _ _ _ (0x5B ∷ 0x5D ∷ []) (rest_as (write_first (strings_json s t count) before l) (json_none e))

    pub none_length : length (sets before 0 (0x5B ∷ 0x5D ∷ [])) ≡ length before
    none_length = write_length _ _ _ none_done

    pub none_put : (◌≡◌ {A = ℕ} 2 (length (strings_json s t count))) × (sets before 0 (0x5B ∷ 0x5D ∷ []) ≡ over (strings_json s t count) before)
    none_put = (write_all _ _ _ none_done, write_end _ _ _ none_done)

-- ---- the ways out

module _ (s t : List ℕ) (count : ℕ) (before : List ℕ) where
  pub too_long : {r : Refusal} → limit < length s → r ≡ refusal_at 1 0 → StringsJson s t count before (Err r) before
  unfolding strings_json_answer
  too_long h e = stop _ _ _ _ h refl (ap refuses e)

  module _ (l : length s ≤ limit) where
    pub too_few : {r : Refusal} → rows string_width t < count → r ≡ refusal_at 11 0 → StringsJson s t count before (Err r) before
    unfolding strings_json_answer
    too_few h e = past _ _ _ _ l (stop _ _ _ _ h refl (ap refuses e))

    module _ (h : count ≤ rows string_width t) {w : Bool} (q : w ≡ leb (length (strings_json s t count)) (length before)) where
      pub is_room : w ≡ true → length (strings_json s t count) ≤ length before
      is_room z = leb-true _ _ (sym q ∙ z)

      pub is_small : w ≡ false → {r : Refusal} → r ≡ refusal_at 4 0 → StringsJson s t count before (Err r) before
      unfolding strings_json_answer text_answer
      is_small z e = past _ _ _ _ l (past _ _ _ _ h (stop _ _ _ _ (leb-false _ _ (sym q ∙ z)) refl (ap refuses e)))

      pub is_put : w ≡ true → {n : ℕ} {after : List ℕ} → n ≡ length (strings_json s t count) → after ≡ over (strings_json s t count) before
          → StringsJson s t count before (Ok n) after
      unfolding strings_json_answer text_answer
      is_put z e a = past _ _ _ _ l (past _ _ _ _ h (past _ _ _ _ (is_room z) (given refl (ap gives e) a)))
