-- What is written is of the records of the rows below the count alone: two sets of rows with the same give one answer and one buffer.
use Rattle.hbc_io.specs.declared.Refusal.{Refusal}
use Rattle.std.specs.Prelude.{Result}
use Rattle.hbc_io.specs.Answers.{answered}
use Prim.Native.Nat.{ℕ, zero, suc, ◌*◌, ◌≤◌, ◌<◌}
use mathlib.Core.Path.{◌≡◌, refl, sym, ap, ◌∙◌}
use mathlib.Core.List.{List, [], ◌∷◌}
use mathlib.Core.Bool.{true}
use native.Mathlib.Nat.{le_refl}
use native.Mathlib.Omega.{arith}
use lib.ListN.{length, get_or, take}
use lib.Seq.{get_or-take}
use lib.Dec.{ltb, lit<}
use borrow.Author.Tests.{le-ltb, ltb-true}
use Rattle.hbc_bits.proofs.Fields.{both}
use Rattle.hbc_io.specs.Lends.{below, written}
use Rattle.hbc_io.proofs.Alone.{one_answer}
use Rattle.hbc_io.proofs.Exits.{alone}
use Rattle.hbc_rows.specs.Rows.{row_at}
use Rattle.hbc_function_record.specs.declared.Layout.{Layout}
use Rattle.hbc_function_record.specs.declared.Layout.TheVariants as lay
use Rattle.hbc_function_record.specs.Row.{width, record_width, ROW_LAYOUT, ROW_ID, ROW_INFO_OFFSET, ROW_FLAGS}
use Rattle.hbc_function_bytes.specs.Bytes.{places_in, words_at, values_in, info_free, goes_inline, byte_wide, zeros_in, each, right_row}
use Rattle.hbc_function_write.specs.Write.{rounded, free_at, place_at, end_at, table_end, head_of, put_large, put_header, put_headers, says_end, right_end, write_answer, WriteFunctions}
use Rattle.hbc_function_write.proofs.Plans.{checked_same}
use Rattle.hbc_claims_function.specs.Written.{SameRecords}

-- ---- rows whose records have the same words are written alike

pub record Alike (layout : Layout) (w v : List ℕ) : Type 0 where
  values : values_in layout w ≡ values_in layout v
  inline : goes_inline layout w ≡ goes_inline layout v
  right : (i : ℕ) → right_row layout i w ≡ right_row layout i v
  says : (end : ℕ) → says_end layout w end ≡ says_end layout v end

-- no field, and no word that should be 0, is behind the record
places_in_lem : (layout : Layout) → (each (λ k. ltb k record_width) (places_in layout) ≡ true) × (each (λ k. ltb k record_width) (byte_wide layout) ≡ true)
    × (each (λ k. ltb k record_width) (zeros_in layout) ≡ true)
places_in_lem lay.Legacy16 = (refl, refl, refl)
places_in_lem lay.Modern12 = (refl, refl, refl)

module _ (w v : List ℕ) (e : take record_width w ≡ take record_width v) where
  word_as : (k : ℕ) → k < record_width → get_or w k 0 ≡ get_or v k 0
  word_as k h = sym (get_or-take record_width w k 0 h) ∙ ap (λ (u : List ℕ). get_or u k 0) e ∙ get_or-take record_width v k 0 h

  words_as : (ks : List ℕ) → each (λ k. ltb k record_width) ks ≡ true → words_at ks w ≡ words_at ks v
  words_as [] h = refl
  words_as (k ∷ ks) h = let t = both (ltb k record_width) h in λ j. word_as k (ltb-true k record_width t.0) j ∷ words_as ks t.1 j

  info-as : get_or w ROW_INFO_OFFSET 0 ≡ get_or v ROW_INFO_OFFSET 0
  info-as = word_as ROW_INFO_OFFSET (lit< tt)

  free_info : (layout : Layout) → info_free layout w ≡ info_free layout v
  free_info lay.Legacy16 = refl
  free_info lay.Modern12 = rw info-as

  says_as : (layout : Layout) (end : ℕ) → says_end layout w end ≡ says_end layout v end
  says_as lay.Legacy16 end = refl
  says_as lay.Modern12 end = rw info-as

  alike : (layout : Layout) → Alike layout w v
  unfolding values_in goes_inline right_row
  alike layout =
      let p = places_in_lem layout in
      let a : values_in layout w ≡ values_in layout v = words_as (places_in layout) p.0 in
      record {
        values = a;
        inline = rw (a, word_as ROW_FLAGS (lit< tt), free_info layout);
        right = λ i. rw (word_as ROW_LAYOUT (lit< tt), word_as ROW_ID (lit< tt), words_as (byte_wide layout) p.1, words_as (zeros_in layout) p.2);
        says = says_as layout;
      }

module _ (layout : Layout) (f g : ℕ → List ℕ) (large n : ℕ) (e : (i : ℕ) → i < n → Alike layout (f i) (g i)) where
  free_as : (i : ℕ) → i ≤ n → free_at layout f large i ≡ free_at layout g large i
  unfolding free_at
  free_as zero h = refl
  free_as (suc i) h = rw ((e i h).inline, free_as i (omega arith))

  place_as : (i : ℕ) → i ≤ n → place_at layout f large i ≡ place_at layout g large i
  unfolding place_at
  place_as i h = ap rounded (free_as i h)

  ends_as : (i : ℕ) → i < n → right_end layout f large i ≡ right_end layout g large i
  unfolding right_end
  ends_as i h = rw ((e i h).inline, (e i h).says, place_as i (omega arith))

  end_as : (table i : ℕ) → i ≤ n → end_at layout f large table i ≡ end_at layout g large table i
  unfolding end_at
  end_as table zero h = refl
  end_as table (suc i) h = rw ((e i h).inline, end_as table i (omega arith), place_as i (omega arith))

  puts_as : (start : ℕ) (b : List ℕ) (i : ℕ) → i ≤ n → put_headers layout f start large i b ≡ put_headers layout g start large i b
  unfolding put_headers put_header put_large head_of
  puts_as start b zero h = refl
  puts_as start b (suc i) h = rw ((e i h).inline, (e i h).values, puts_as start b i (omega arith), place_as i (omega arith))

module _ (rows₁ rows₂ : List ℕ) (layout : Layout) (start count large : ℕ) (b : List ℕ) (h : count * width ≤ length rows₁) (k : count * width ≤ length rows₂)
    (same : SameRecords rows₁ rows₂ count) where
  rows_as : (i : ℕ) → i < count → Alike layout (row_at width rows₁ i) (row_at width rows₂ i)
  rows_as i l = alike (row_at width rows₁ i) (row_at width rows₂ i) (same i l) layout

  answers_as : write_answer rows₁ layout start count large b ≡ write_answer rows₂ layout start count large b
  unfolding write_answer below
  answers_as =
      rw (
        le-ltb (length rows₁) (count * width) h,
        le-ltb (length rows₂) (count * width) k,
        checked_same 13 (λ i. right_row layout i (row_at width rows₁ i)) (λ i. right_row layout i (row_at width rows₂ i)) count (λ i l. (rows_as i l).right i),
        checked_same 14 (right_end layout (row_at width rows₁) large) (right_end layout (row_at width rows₂) large) count
            (ends_as layout (row_at width rows₁) (row_at width rows₂) large count rows_as),
        end_as layout (row_at width rows₁) (row_at width rows₂) large count rows_as (table_end layout start count) count (le_refl count),
      )

  pub one_output : {r q : Result ℕ Refusal} {b₁ b₂ : List ℕ} → WriteFunctions rows₁ layout start count large b r b₁ → WriteFunctions rows₂ layout start count large b q b₂
      → (r ≡ q) × (b₁ ≡ b₂)
  one_output {r} {q} v w =
      alone one_answer v
      (record {
        says = w.says ∙ sym answers_as;
        leaves =
            w.leaves
            ∙ ap (λ (x : List ℕ). written (answered q) x b) (sym (puts_as layout (row_at width rows₁) (row_at width rows₂) large count rows_as start b count (le_refl count)));
      })
