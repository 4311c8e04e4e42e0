-- What stands in a buffer after the headers of rows were put into it; every byte of no header is as it was.
use Prim.Native.Nat.{ℕ, zero, suc, ◌+◌, ◌≤◌, ◌<◌}
use mathlib.Core.Path.{◌≡◌, refl, ◌∙◌}
use mathlib.Core.List.{List}
use mathlib.Core.Bool.{Bool, true, false}
use native.Mathlib.Omega.{arith}
use native.Mathlib.Decide.{le_ind}
use lib.ListN.{length, get_or}
use Rattle.hbc_bits.specs.Fields.{laid}
use Rattle.hbc_bits.proofs.Fields.{bytes_length}
use Rattle.hbc_rows.specs.Rows.{put}
use Rattle.hbc_rows.proofs.Puts.{Stands, put_length, put_other, put_stands, stands_before, stands_after}
use Rattle.hbc_function_record.specs.declared.Layout.{Layout}
use Rattle.hbc_function_record.specs.declared.Layout.TheVariants as lay
use Rattle.hbc_function_record.specs.Record.{size_of, large_of}
use Rattle.hbc_function_header.specs.Header.{header_at}
use Rattle.hbc_function_bytes.specs.Bytes.{values_in, goes_inline, inline_number, inline_bytes, large_bytes}
use Rattle.hbc_function_write.specs.Write.{place_at, head_of, put_large, put_header, put_headers}
use Rattle.hbc_function_write.specs.Private.{Room}
use Rattle.hbc_function_write.proofs.Places.{head_before, place_before, head_in, place_in, head_place}
use Rattle.hbc_function_write.proofs.Turns.{headers_length}
use Rattle.hbc_claims_function.specs.Written.{Free}

inline-length : (layout : Layout) (vs : List ℕ) → length (inline_bytes layout vs) ≡ size_of layout
unfolding inline_bytes
inline-length layout vs = bytes_length (size_of layout) (inline_number layout vs)

large_length : (layout : Layout) (w : List ℕ) → length (large_bytes layout (values_in layout w)) ≡ large_of layout
unfolding large_bytes laid values_in
large_length lay.Legacy16 w = refl
large_length lay.Modern12 w = refl

-- row i's headers stand in s
pub record Holds (layout : Layout) (f : ℕ → List ℕ) (start large i : ℕ) (s : List ℕ) : Type 0 where
  pub head : Stands s (header_at layout start i) (inline_bytes layout (head_of layout f large i))
  pub far : goes_inline layout (f i) ≡ false → Stands s (place_at layout f large i) (large_bytes layout (values_in layout (f i)))

module _ (layout : Layout) (f : ℕ → List ℕ) (start large : ℕ) where
  abbrev head_bytes : ℕ → List ℕ
  head_bytes i = inline_bytes layout (head_of layout f large i)

  abbrev far_bytes : ℕ → List ℕ
  far_bytes i = large_bytes layout (values_in layout (f i))

  module _ (count : ℕ) (t : List ℕ) (v : Room layout f start large count (length t)) where
    -- row n's large header, put into s
    module _ (n : ℕ) (h : n < count) (s : List ℕ) (l : length s ≡ length t) where
      room_head : header_at layout start n + length (head_bytes n) ≤ length s
      room_head = rw (inline-length layout (head_of layout f large n), l) (head_in v n h)

      room_far : goes_inline layout (f n) ≡ false → place_at layout f large n + length (far_bytes n) ≤ length s
      room_far e = rw (large_length layout (f n), l) (place_in v n h e)

      -- what ends before it stands still
      far_keeps : (at : ℕ) (bs : List ℕ) (b : Bool) → goes_inline layout (f n) ≡ b → Stands s at bs → at + length bs ≤ place_at layout f large n
          → Stands (put_large layout f large n s) at bs
      unfolding put_large
      far_keeps at bs true e w k = rw e w
      far_keeps at bs false e w k = rw e (stands_before w (place_at layout f large n) (far_bytes n) (room_far e) k)

      far_stands : goes_inline layout (f n) ≡ false → Stands (put_large layout f large n s) (place_at layout f large n) (far_bytes n)
      unfolding put_large
      far_stands e = rw e (put_stands (place_at layout f large n) (far_bytes n) s (room_far e))

    -- its inline header, then that
    module _ (n : ℕ) (h : n < count) (s : List ℕ) (l : length s ≡ length t) where
      abbrev headed : List ℕ
      headed = put (header_at layout start n) (head_bytes n) s

      headed_length : length headed ≡ length t
      headed_length = put_length (header_at layout start n) (head_bytes n) s ∙ l

      this_holds : Holds layout f start large n (put_header layout f start large n s)
      unfolding put_header
      this_holds =
          record {
            head =
                far_keeps n h headed headed_length (header_at layout start n) (head_bytes n) (goes_inline layout (f n)) refl
                (put_stands (header_at layout start n) (head_bytes n) s (room_head n h s l))
                (rw (inline-length layout (head_of layout f large n)) (head_place v n h n));
            far = λ e. far_stands n h headed headed_length e;
          }

      -- a row before it holds what it held
      before_holds : (i : ℕ) → i < n → Holds layout f start large i s → Holds layout f start large i (put_header layout f start large n s)
      unfolding put_header
      before_holds i k w =
          record {
            head =
                far_keeps n h headed headed_length (header_at layout start i) (head_bytes i) (goes_inline layout (f n)) refl
                (stands_before w.head (header_at layout start n) (head_bytes n) (room_head n h s l)
                (rw (inline-length layout (head_of layout f large i)) (head_before layout start i n k)))
                (rw (inline-length layout (head_of layout f large i)) (head_place v i (omega arith) n));
            far = λ e.
                far_keeps n h headed headed_length (place_at layout f large i) (far_bytes i) (goes_inline layout (f n)) refl
                (stands_after (w.far e) (header_at layout start n) (head_bytes n) (room_head n h s l)
                (rw (inline-length layout (head_of layout f large n)) (head_place v n h i)))
                (rw (large_length layout (f i)) (place_before layout f large i n k e));
          }

    -- each of rows 0 to n - 1 holds
    pub headers_hold : (n i : ℕ) → i < n → n ≤ count → Holds layout f start large i (put_headers layout f start large n t)
    unfolding put_headers
    headers_hold n i k h =
        le_ind (λ (m : ℕ). m ≤ count → Holds layout f start large i (put_headers layout f start large m t))
        (λ c. this_holds i c (put_headers layout f start large i t) (headers_length layout f start large i t))
        (λ m q p c. before_holds m c (put_headers layout f start large m t) (headers_length layout f start large m t) i q (p (omega arith))) n k h

  -- ---- a byte of no header

  module _ (count j : ℕ) (o : Free layout f start large count j) where
    far_other : (n : ℕ) (b : Bool) → goes_inline layout (f n) ≡ b → n < count → (s : List ℕ) → get_or (put_large layout f large n s) j 0 ≡ get_or s j 0
    unfolding put_large
    far_other n true e h s = rw e
    far_other n false e h s = rw e (put_other (place_at layout f large n) (far_bytes n) s j (λ p q. o.larges n h e p (rw (large_length layout (f n)) at q)))

    pub headers_other : (n : ℕ) → n ≤ count → (s : List ℕ) → get_or (put_headers layout f start large n s) j 0 ≡ get_or s j 0
    unfolding put_headers put_header
    headers_other zero h s = refl
    headers_other (suc n) h s =
        far_other n (goes_inline layout (f n)) refl h (put (header_at layout start n) (head_bytes n) (put_headers layout f start large n s))
        ∙ put_other (header_at layout start n) (head_bytes n) (put_headers layout f start large n s) j
        (λ p q. o.heads n h p (rw (inline-length layout (head_of layout f large n)) at q))
        ∙ headers_other n (omega arith) s
