-- What an accepted write leaves, from its promise: where its headers are, what stands there as the reader has it, and that reading gives the rows.
use Rattle.std.specs.Prelude.{Ok}
use Prim.Native.Nat.{ℕ, zero, suc, ◌+◌, ◌*◌, ◌%◌, ◌^◌, ◌≤◌, ◌<◌}
use mathlib.Core.Path.{◌≡◌, refl, sym, ap, ◌∙◌}
use mathlib.Core.List.{List, [], ◌∷◌}
use mathlib.Core.Bool.{Bool, true, false, cond}
use native.Mathlib.Nat.{le_refl}
use native.Mathlib.Omega.{arith}
use native.Mathlib.Numerals.{add-one}
use lib.ListN.{length, get_or, take, drop, length-drop}
use lib.Seq.{length-take-le, take_at}
use lib.Dec.{ltb, lit<}
use Rattle.hbc_bits.specs.Bits.{le_at}
use Rattle.hbc_io.specs.Answer.{Answer, gives, asked}
use Rattle.hbc_io.proofs.Alone.{one_answer}
use Rattle.hbc_io.proofs.Exits.{words}
use Rattle.hbc_rows.specs.Rows.{row_at}
use Rattle.hbc_function_record.specs.declared.Layout.{Layout}
use Rattle.hbc_function_record.specs.declared.Record.{Record}
use Rattle.hbc_function_record.specs.Record.{size_of, large_of, inline_of}
use Rattle.hbc_function_record.specs.declared.Found.{Found}
use Rattle.hbc_function_record.specs.Row.{width, record_width, inline, row_words, found_at}
use Rattle.hbc_function_header.specs.Header.{header_at, large_found, function_at}
use Rattle.hbc_function.specs.Table.{step, scan, put_rows, all, Table, summed, read_answer}
use Rattle.hbc_function.proofs.Laws.{put_length, scanned, row_at_lem}
use Rattle.hbc_function_bytes.specs.Bytes.{values_in, goes_inline, pointer_to, right_row}
use Rattle.hbc_function_bytes.proofs.Sums.{info_of}
use Rattle.hbc_function_write.specs.Write.{rounded, free_at, place_at, end_at, table_end, head_of, right_end}
use Rattle.hbc_function_write.specs.Private.{Room}
use Rattle.hbc_function_write.proofs.Plans.{last_or}
use Rattle.hbc_function_write.proofs.Places.{large_some, place_after, place_before, free_same, next_free, end_in, head_in, place_in}
use Rattle.hbc_function_write.proofs.Turns.{headers_length}
use Rattle.hbc_claims_law.specs.Terms.{Either, left, right, flagged, packed_at}
use Rattle.hbc_claims_function.specs.Accepted.{Writable}
use Rattle.hbc_claims_function.specs.Written.{Words, Written, back_at, ReadsBack, SameRecords, Headed, Kept, Placed}
use Rattle.hbc_claims_function.proofs.Words.{word_behind}
use Rattle.hbc_claims_function.proofs.Accepted.{writable}
use Rattle.hbc_claims_function.proofs.Packed as packs
use Rattle.hbc_claims_function.proofs.Headers.{record_by, inline_stands, large_stands, pointer_fits, pointer_place, pointer_flagged, inline_fits, inline_own, inline_info, large_info, row_back, row_layable}
use Rattle.hbc_claims_function.proofs.Holds.{Holds, headers_hold, headers_other}

-- ---- rows of u32 words

drop_words : (n : ℕ) (s : List ℕ) → Words s → Words (drop n s)
drop_words zero s h = h
drop_words (suc n) [] h = h
drop_words (suc n) (x ∷ s) h = drop_words n s (λ k. h (suc k))

take_words : (n : ℕ) (s : List ℕ) → Words s → Words (take n s)
take_words zero s h k = lit< tt
take_words (suc n) [] h k = lit< tt
take_words (suc n) (x ∷ s) h zero = h 0
take_words (suc n) (x ∷ s) h (suc k) = take_words n s (λ j. h (suc j)) k

row_words_lem : (rows : List ℕ) (i : ℕ) → Words rows → Words (row_at width rows i)
unfolding row_at
row_words_lem rows i h = take_words width (drop (i * width) rows) (drop_words (i * width) rows h)

row_length : (rows : List ℕ) (i count : ℕ) → i < count → count * width ≤ length rows → length (row_at width rows i) ≡ width
unfolding row_at
row_length rows i count h l = length-take-le width (drop (i * width) rows) (simp length-drop (omega arith))

-- ---- one function of a file that holds row i's headers

module _ (s : List ℕ) (layout : Layout) (f : ℕ → List ℕ) (start large count i : ℕ) (h : i < count) (small : length s ≤ 2 ^ 30)
    (v : Room layout f start large count (length s)) (w : Holds layout f start large i s) where
  abbrev at : ℕ
  at = header_at layout start i

  abbrev place : ℕ
  place = place_at layout f large i

  -- the record of the row
  abbrev own : Record
  own = record_by layout i (info_of layout (f i)) (values_in layout (f i))

  -- inline: the header is the row's own
  module _ (e : goes_inline layout (f i) ≡ true) where
    inline-head : (k : ℕ) → inline_of layout k (le_at s at (size_of layout)) ≡ record_by layout k 0 (values_in layout (f i))
    unfolding head_of
    inline-head k = inline_stands layout k (values_in layout (f i)) (rw e at w.head) (inline_fits layout (f i) e)

    not_flagged : flagged s layout at ≡ false
    not_flagged = rw (inline-head 0) (inline_own layout (f i) e 0 0)

    inline-found : function_at s layout start i ≡ gives (found_at inline own)
    unfolding function_at
    inline-found =
        packs.own s layout at i (head_in v i h) not_flagged
        ∙ ap (λ (r : Record). gives (found_at inline r))
        (inline-head i ∙ ap (λ (n : ℕ). record_by layout i n (values_in layout (f i))) (inline_info layout (f i) e))

  -- large: it says where the large one is
  module _ (e : goes_inline layout (f i) ≡ false) where
    place_small : place < 2 ^ 30
    place_small = let k = place_in v i h e in let l = large_some layout in omega arith

    pointer_head : inline_of layout 0 (le_at s at (size_of layout)) ≡ record_by layout 0 0 (pointer_to layout place)
    unfolding head_of
    pointer_head = inline_stands layout 0 (pointer_to layout place) (rw e at w.head) (pointer_fits place place_small layout)

    is_flagged : flagged s layout at ≡ true
    is_flagged = rw pointer_head (pointer_flagged place place_small layout 0 0)

    is_packed : packed_at s layout at ≡ place
    is_packed = rw pointer_head (pointer_place place place_small layout 0 0)

    large_found_lem : Words (f i) → right_row layout i (f i) ≡ true → right_end layout f large i ≡ true
        → function_at s layout start i ≡ gives (found_at place own)
    unfolding function_at right_end
    large_found_lem u r n =
        packs.large s layout at i (head_in v i h) is_flagged (rw is_packed (place_in v i h e))
        ∙ ap (λ (p : ℕ). gives (large_found s layout p i)) is_packed
        ∙ ap (λ (r : Record). gives (found_at place r))
        (large_stands layout i (values_in layout (f i)) (w.far e) (row_layable layout i (f i) u r)
        ∙ large_info layout i (f i) (values_in layout (f i)) (rounded (place + large_of layout)) (rw e at n))

  found_by : (b : Bool) → goes_inline layout (f i) ≡ b → Words (f i) → right_row layout i (f i) ≡ true → right_end layout f large i ≡ true
      → function_at s layout start i ≡ gives (found_at (cond b inline place) own)
  found_by true e u r n = inline-found e
  found_by false e u r n = large_found_lem e u r n

  pub is_headed : Words (f i) → length (f i) ≡ width → right_row layout i (f i) ≡ true → right_end layout f large i ≡ true → Headed s layout f start large i
  unfolding row_words
  is_headed u l r n =
      record {
        inline = not_flagged;
        large_one = λ e. (is_flagged e, is_packed e);
        read_as = found_at (cond (goes_inline layout (f i)) inline place) own;
        found = found_by (goes_inline layout (f i)) refl u r n;
        is = rw (row_back layout i (f i) l r);
      }

-- ---- where what was written ends

module _ (layout : Layout) (f : ℕ → List ℕ) (large table : ℕ) where
  -- with a large header, or at the table's end if there is none
  abbrev Ends : ℕ → Type 0
  Ends n =
      Either ((i : ℕ) × (i < n) × (goes_inline layout (f i) ≡ false) × (end_at layout f large table n ≡ place_at layout f large i + large_of layout))
      (((i : ℕ) → i < n → goes_inline layout (f i) ≡ true) × (end_at layout f large table n ≡ table))

  ends_more : (n : ℕ) (c : Bool) → goes_inline layout (f n) ≡ c → Ends n → Ends (suc n)
  unfolding end_at
  ends_more n true g (left (i, h, o, q)) = left (i, omega arith, o, rw g q)
  ends_more n true g (right (o, q)) = right (λ i h. last_or (λ k. goes_inline layout (f k)) i n (ltb i n) refl h (o i) g, rw g q)
  ends_more n false g o = left (n, omega arith, g, rw g)

  ends : (n : ℕ) → Ends n
  unfolding end_at
  ends zero = right (λ i h. absurd (omega arith), refl)
  ends (suc n) = ends_more n (goes_inline layout (f n)) refl (ends n)

-- the first large header, and the next
first_place : (layout : Layout) (f : ℕ → List ℕ) (large i : ℕ) → ((j : ℕ) → j < i → goes_inline layout (f j) ≡ true) → place_at layout f large i ≡ rounded large
unfolding place_at free_at
first_place layout f large i n = ap rounded (free_same layout f large 0 i (omega arith) (λ j a b. n j b))

next_place : (layout : Layout) (f : ℕ → List ℕ) (large i k : ℕ) → i < k → goes_inline layout (f i) ≡ false
    → ((j : ℕ) → i < j → j < k → goes_inline layout (f j) ≡ true) → place_at layout f large k ≡ rounded (place_at layout f large i + large_of layout)
unfolding place_at
next_place layout f large i k h g n = ap rounded (free_same layout f large (suc i) k h (λ j a b. n j a b) ∙ next_free layout f large i g)

aligned : (layout : Layout) (f : ℕ → List ℕ) (large i : ℕ) → place_at layout f large i % 4 ≡ 0
unfolding place_at
aligned layout f large i = omega arith

-- ---- functions that are all found

scan_all : (g : ℕ → Answer Found) (n : ℕ) → ((i : ℕ) → i < n → (r : Found) × (g i ≡ gives r)) → scan all g n ≡ gives n
unfolding scan step
scan_all g zero e = refl
scan_all g (suc n) e = rw (scan_all g n (λ i h. e i (omega arith)), (e n (omega arith)).1) (ap gives (add-one n))

-- ---- the write

module _ {rows : List ℕ} {layout : Layout} {start count large : ℕ} {b : List ℕ} {e : ℕ} {b' : List ℕ} (w : Written rows layout start count large b e b') where
  abbrev f : ℕ → List ℕ
  f = row_at width rows

  passed : Writable rows layout start count large b e
  passed = writable rows layout start count large b e (sym w.write.says)

  after_length : length b' ≡ length b
  after_length = ap length w.write.leaves ∙ headers_length layout f start large count b

  room : Room layout f start large count (length b)
  room = record { after = passed.after; room = passed.fits }

  pub headed : (i : ℕ) → i < count → Headed b' layout f start large i
  headed i h =
      is_headed b' layout f start large count i h (rw after_length passed.short) (rw after_length room)
      (rw w.write.leaves (headers_hold layout f start large count b room count i h (le_refl count)))
      (row_words_lem rows i w.words) (row_length rows i count h passed.holds) (passed.right i h) (passed.ends i h)

  pub kept : Kept layout f start large count b b'
  kept =
      record {
        long = after_length;
        rest = λ j o. ap (λ (s : List ℕ). get_or s j 0) w.write.leaves ∙ headers_other layout f start large count j o count (le_refl count) b;
      }

  pub placed : Placed layout f start large count (length b) e
  placed =
      let a = passed in
      let tight : Room layout f start large count e = record { after = a.after; room = omega (arith, a.end) } in
      record {
        table = a.after;
        by_end = end_in tight;
        in_buffer = rw a.end a.fits;
        within = λ i h g. (aligned layout f large i, place_after layout f large i, place_in tight i h g);
        first = λ i h g n. first_place layout f large i n;
        next = λ i k h l g q n. next_place layout f large i k h g n;
        rising = λ i k h l g q. place_before layout f large i k h g;
        end = rw a.end (ends layout f large (table_end layout start count) count);
      }

  -- ---- read back

  -- a read is accepted
  read_accepts : (n : ℕ) → count * width ≤ n → read_answer b' layout start count n ≡ gives tt
  read_accepts n h =
      sym (scanned b' layout start count n (rw after_length passed.short) (rw after_length passed.begins) h)
      ∙ ap asked (scan_all (function_at b' layout start) count (λ i l. ((headed i l).read_as, (headed i l).found)))

  back_row : (t : List ℕ) → count * width ≤ length t → (i : ℕ) → i < count → row_at width (put_rows all (function_at b' layout start) t count) i ≡ back_at layout f large i
  back_row t h i l =
      let v = headed i l in
      row_at_lem all (function_at b' layout start) t count i v.read_as h l refl v.found ∙ v.is

  pub reads_back : ReadsBack rows layout start count large b'
  reads_back t t' r h v =
      let a = read_accepts (length t.rows) h in
      let g = function_at b' layout start in
      let u : t' ≡ summed (put_rows all g t.rows count) count = words v ∙ rw a in
      let e : t'.rows ≡ put_rows all g t.rows count = ap (λ (x : Table). x.rows) u in (
        one_answer r (Ok tt) (v.says ∙ a),
        λ i l. ap (λ (u : List ℕ). row_at width u i) e ∙ back_row t.rows h i l,
        rw e (record { rest = word_behind all g t.rows count; long = put_length all g t.rows count }),
      )

-- the record's words of a row that is read back
back_record : (layout : Layout) (f : ℕ → List ℕ) (large i : ℕ) → length (f i) ≡ width → take record_width (back_at layout f large i) ≡ take record_width (f i)
back_record layout f large i l = take_at (take record_width (f i)) _ record_width (length-take-le record_width (f i) (omega arith))

-- two writes that leave the same buffer were of the same records: both are what a read of it gives
pub same_rows : {rows₁ rows₂ : List ℕ} {layout : Layout} {start count large₁ large₂ : ℕ} {b₁ b₂ : List ℕ} {e₁ e₂ : ℕ} {b' : List ℕ}
    → Written rows₁ layout start count large₁ b₁ e₁ b' → Written rows₂ layout start count large₂ b₂ e₂ b' → SameRecords rows₁ rows₂ count
same_rows {rows₁} {rows₂} {layout} {start} {count} {large₁} {large₂} {b' = b'} v w i l =
    let h : count * width ≤ length rows₁ = (passed v).holds in
    let k : count * width ≤ length rows₂ = (passed w).holds in
    sym (back_record layout (row_at width rows₁) large₁ i (row_length rows₁ i count l h))
    ∙ ap (take record_width) (sym (back_row v rows₁ h i l) ∙ back_row w rows₁ h i l)
    ∙ back_record layout (row_at width rows₂) large₂ i (row_length rows₂ i count l k)
