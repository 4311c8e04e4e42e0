-- The writing: one row, and one row more.
use Prim.Native.Nat.{ℕ, zero, suc, ◌+◌}
use mathlib.Core.Path.{◌≡◌, refl, sym, ap, ◌∙◌}
use mathlib.Core.List.{List}
use mathlib.Core.Bool.{Bool, true, false, cond}
use native.Mathlib.Numerals.{add-one}
use lib.ListN.{length}
use Rattle.hbc_bits.specs.Fields.{words_of, laid}
use Rattle.hbc_rows.specs.Rows.{put}
use Rattle.hbc_rows.proofs.Puts.{put_length}
use Rattle.hbc_function_record.specs.declared.Layout.{Layout}
use Rattle.hbc_function_record.specs.Record.{large_of}
use Rattle.hbc_function_header.specs.Header.{header_at}
use Rattle.hbc_function_bytes.specs.Bytes.{values_in, goes_inline, inline_number, inline_bytes, large_bytes, pointer_to}
use Rattle.hbc_function_write.specs.Write.{rounded, free_at, place_at, head_of, put_large, put_header, put_headers}
use Rattle.hbc_function_put.specs.Put.{word_sizes, four_of}
use Rattle.hbc_function_put.proofs.Puts.{header_put_lem}
use Rattle.hbc_function_write.specs.Private.{free_after, row_put, PutRow}

module _ (layout : Layout) (at free : ℕ) (w s : List ℕ) where
  pub row_inline : {ws t : List ℕ} → goes_inline layout w ≡ true → ws ≡ words_of 4 (inline_number layout (values_in layout w))
      → t ≡ put at (laid (word_sizes layout) (four_of ws)) s → PutRow layout at free w s free t
  unfolding free_after row_put
  row_inline g p q = record { next = rw g; bytes = rw g (header_put_lem layout (values_in layout w) at s p q) }

  pub row_large : {ws t u : List ℕ} {place n : ℕ} → place ≡ rounded free → goes_inline layout w ≡ false
      → ws ≡ words_of 4 (inline_number layout (pointer_to layout place)) → t ≡ put at (laid (word_sizes layout) (four_of ws)) s
      → u ≡ put place (large_bytes layout (values_in layout w)) t → n ≡ large_of layout → PutRow layout at free w s (place + n) u
  unfolding free_after row_put
  row_large {place = place} o g p q r e =
      record {
        next = rw (g, e, o);
        bytes = rw (g, ← o) (r ∙ ap (put place (large_bytes layout (values_in layout w))) (header_put_lem layout (pointer_to layout place) at s p q));
      }

module _ (layout : Layout) (f : ℕ → List ℕ) (start large : ℕ) where
  row_by_lem : (i : ℕ) (b : Bool) → goes_inline layout (f i) ≡ b → (s : List ℕ)
      → put_header layout f start large i s ≡ row_put layout (header_at layout start i) (free_at layout f large i) (f i) s
  unfolding put_header put_large head_of row_put place_at
  row_by_lem i true e s = rw e
  row_by_lem i false e s = rw e

  free_next : (i : ℕ) → free_after layout (f i) (free_at layout f large i) ≡ free_at layout f large (suc i)
  unfolding free_after free_at
  free_next i = refl

  large_length : (i : ℕ) (b : Bool) (s : List ℕ) → length (cond b s (put (place_at layout f large i) (large_bytes layout (values_in layout (f i))) s)) ≡ length s
  large_length i true s = refl
  large_length i false s = put_length (place_at layout f large i) (large_bytes layout (values_in layout (f i))) s

  pub header_length : (i : ℕ) (s : List ℕ) → length (put_header layout f start large i s) ≡ length s
  unfolding put_header put_large
  header_length i s =
      large_length i (goes_inline layout (f i)) (put (header_at layout start i) (inline_bytes layout (head_of layout f large i)) s)
      ∙ put_length (header_at layout start i) (inline_bytes layout (head_of layout f large i)) s

  pub headers_length : (n : ℕ) (s : List ℕ) → length (put_headers layout f start large n s) ≡ length s
  unfolding put_headers
  headers_length zero s = refl
  headers_length (suc n) s = header_length n (put_headers layout f start large n s) ∙ headers_length n s

  -- what the loop has done after i rows
  pub record Done (before : List ℕ) (i n : ℕ) (s : List ℕ) : Type 0 where
    pub free : n ≡ free_at layout f large i
    pub bytes : s ≡ put_headers layout f start large i before
    pub size : length s ≡ length before

  pub done_first : (s : List ℕ) → Done s 0 large s
  unfolding free_at put_headers
  done_first s = record { free = refl; bytes = refl; size = refl }

  -- one row more
  pub done_more : {before s t w : List ℕ} {i free next at : ℕ} → Done before i free s → w ≡ f i → at ≡ header_at layout start i → PutRow layout at free w s next t
      → Done before (i + 1) next t
  unfolding put_headers
  done_more {before} {s} {t} {i = i} d e h v =
      let b : put_header layout f start large i (put_headers layout f start large i before) ≡ row_put layout (header_at layout start i) (free_at layout f large i) (f i) (put_headers layout f start large i before) =
      row_by_lem i (goes_inline layout (f i)) refl (put_headers layout f start large i before) in
      let q : t ≡ put_header layout f start large i (put_headers layout f start large i before) = v.bytes ∙ rw (h, e, d.free, d.bytes) (sym b) in
      record {
        free = v.next ∙ rw (e, d.free, add-one i) (free_next i);
        bytes = rw (add-one i) q;
        size = ap length q ∙ header_length i (put_headers layout f start large i before) ∙ headers_length i before;
      }
