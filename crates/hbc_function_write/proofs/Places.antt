-- Where headers go: none shares a byte with another, and all are within the buffer.
use Prim.Native.Nat.{ℕ, zero, suc, ◌+◌, ◌*◌, ◌≤◌, ◌<◌}
use mathlib.Core.Path.{◌≡◌, refl, ◌∙◌}
use mathlib.Core.List.{List}
use mathlib.Core.Bool.{Bool, true, false, not, cond}
use native.Mathlib.Nat.{le_trans, le_refl}
use native.Mathlib.Omega.{arith}
use native.Mathlib.Decide.{le_ind}
use lib.ListN.{get_or}
use lib.Dec.{eqb}
use borrow.Author.Tests.{eqb-true, eq-eqb}
use Rattle.hbc_bits.specs.Fields.{fit}
use Rattle.hbc_bits.proofs.Fields.{both}
use Rattle.hbc_function_record.specs.declared.Layout.{Layout}
use Rattle.hbc_function_record.specs.declared.Layout.TheVariants as lay
use Rattle.hbc_function_record.specs.Record.{size_of, large_of, overflowed}
use Rattle.hbc_function_record.specs.Row.{ROW_INFO_OFFSET, ROW_FLAGS}
use Rattle.hbc_function_header.specs.Header.{header_at}
use Rattle.hbc_function_record.specs.BitLayout.{fields_in}
use Rattle.hbc_function_bytes.proofs.Sums.{same_test}
use Rattle.hbc_function_bytes.specs.Bytes.{values_in, info_free, goes_inline}
use Rattle.hbc_function_write.specs.Write.{rounded, free_at, place_at, end_at, table_end, right_end}
use Rattle.hbc_function_write.specs.Private.{Room, Ends, Ended, Inlines}

pub large_small : (layout : Layout) → large_of layout ≤ 37
large_small lay.Legacy16 = omega arith
large_small lay.Modern12 = omega arith

pub large_some : (layout : Layout) → 31 ≤ large_of layout
large_some lay.Legacy16 = omega arith
large_some lay.Modern12 = omega arith

-- a header before another one, and before the table's end
pub head_before : (layout : Layout) (start i n : ℕ) → i < n → header_at layout start i + size_of layout ≤ start + n * size_of layout
head_before lay.Legacy16 start i n h = omega arith
head_before lay.Modern12 start i n h = omega arith

cond_le : (b : Bool) (a x y : ℕ) → a ≤ x → a ≤ y → a ≤ cond b x y
cond_le true a x y h l = h
cond_le false a x y h l = l

le_cond : (b : Bool) (a x y : ℕ) → x ≤ a → y ≤ a → cond b x y ≤ a
le_cond true a x y h l = h
le_cond false a x y h l = l

module _ (layout : Layout) (f : ℕ → List ℕ) (large : ℕ) where
  free_step : (i : ℕ) → free_at layout f large i ≤ free_at layout f large (suc i)
  unfolding free_at
  free_step i =
      cond_le (goes_inline layout (f i)) (free_at layout f large i) (free_at layout f large i) (rounded (free_at layout f large i) + large_of layout) (omega arith) (omega arith)

  free_mono : (i n : ℕ) → i ≤ n → free_at layout f large i ≤ free_at layout f large n
  free_mono i n h =
      le_ind (λ (m : ℕ). free_at layout f large i ≤ free_at layout f large m) (le_refl (free_at layout f large i)) (λ m k p. le_trans p (free_step m)) n h

  large_free : (i : ℕ) → large ≤ free_at layout f large i
  unfolding free_at
  large_free i = free_mono 0 i (omega arith)

  -- each row moves it on by 40 bytes at most
  pub free_bound : (i : ℕ) → free_at layout f large i ≤ large + i * 40
  unfolding free_at
  free_bound zero = omega arith
  free_bound (suc i) =
      let p = free_bound i in
      let q = large_small layout in
      le_cond (goes_inline layout (f i)) (large + suc i * 40) (free_at layout f large i) (rounded (free_at layout f large i) + large_of layout) (omega arith) (omega arith)

  pub place_after : (i : ℕ) → large ≤ place_at layout f large i
  unfolding place_at
  place_after i = omega (arith, large_free i)

  free_inline : (i : ℕ) → goes_inline layout (f i) ≡ true → free_at layout f large (suc i) ≡ free_at layout f large i
  unfolding free_at
  free_inline i e = rw e

  -- rows that go inline take nothing
  pub free_same : (i n : ℕ) → i ≤ n → ((j : ℕ) → i ≤ j → j < n → goes_inline layout (f j) ≡ true) → free_at layout f large n ≡ free_at layout f large i
  free_same i n h =
      le_ind (λ (m : ℕ). ((j : ℕ) → i ≤ j → j < m → goes_inline layout (f j) ≡ true) → free_at layout f large m ≡ free_at layout f large i) (λ g. refl)
      (λ m k p g. free_inline m (g m k (omega arith)) ∙ p (λ j a b. g j a (omega arith))) n h

  pub free_large : (i : ℕ) → goes_inline layout (f i) ≡ false → free_at layout f large (suc i) ≡ place_at layout f large i + large_of layout
  unfolding free_at place_at
  free_large i e = rw e

  pub next_free : (i : ℕ) → goes_inline layout (f i) ≡ false → free_at layout f large (suc i) ≡ rounded (free_at layout f large i) + large_of layout
  unfolding free_at
  next_free i e = rw e

  -- large headers rise
  pub place_before : (i n : ℕ) → i < n → goes_inline layout (f i) ≡ false → place_at layout f large i + large_of layout ≤ place_at layout f large n
  unfolding place_at
  place_before i n h e = omega (arith, free_large i e, free_mono (suc i) n h)

  module _ (table : ℕ) where
    end_free : (i n : ℕ) → i < n → goes_inline layout (f i) ≡ false → end_at layout f large table n ≡ free_at layout f large n
    unfolding end_at free_at place_at
    end_free i n h e = le_ind (λ (m : ℕ). end_at layout f large table m ≡ free_at layout f large m) (rw e) (λ m k p. rw p) n h

    end_step : (i : ℕ) → table ≤ large → table ≤ end_at layout f large table i → table ≤ end_at layout f large table (suc i)
    unfolding end_at
    end_step i h p =
        cond_le (goes_inline layout (f i)) table (end_at layout f large table i) (place_at layout f large i + large_of layout) p (omega (arith, place_after i))

    end_table : (n : ℕ) → table ≤ large → table ≤ end_at layout f large table n
    unfolding end_at
    end_table zero h = le_refl table
    end_table (suc n) h = end_step n h (end_table n h)

module _ {layout : Layout} {f : ℕ → List ℕ} {start large count n : ℕ} (v : Room layout f start large count n) where
  -- the table is within the buffer
  pub end_in : table_end layout start count ≤ n
  end_in = le_trans (end_table layout f large (table_end layout start count) count v.after) v.room

  module _ (i : ℕ) (h : i < count) where
    pub head_in : header_at layout start i + size_of layout ≤ n
    head_in = le_trans (head_before layout start i count h) end_in

    pub place_in : goes_inline layout (f i) ≡ false → place_at layout f large i + large_of layout ≤ n
    place_in e =
        let a : free_at layout f large (suc i) ≤ n =
        le_trans (free_mono layout f large (suc i) count h) (rw (end_free layout f large (table_end layout start count) i count h e) at v.room) in
        rw (free_large layout f large i e) at a

    pub head_place : (k : ℕ) → header_at layout start i + size_of layout ≤ place_at layout f large k
    head_place k = le_trans (head_before layout start i count h) (le_trans v.after (place_after layout f large k))

  -- nothing ends behind the table: no row is large
  inline-by : (e : end_at layout f large (table_end layout start count) count ≡ table_end layout start count) (i : ℕ) → i < count → (b : Bool) → goes_inline layout (f i) ≡ b
      → b ≡ true
  inline-by e i h true g = refl
  inline-by e i h false g =
      let p = end_free layout f large (table_end layout start count) i count h g in
      let q = free_large layout f large i g in
      let m = free_mono layout f large (suc i) count h in
      let a = place_after layout f large i in
      let s = large_some layout in
      let z = v.after in
      absurd (omega arith)

  pub none_large : end_at layout f large (table_end layout start count) count ≡ table_end layout start count → Inlines layout f count
  none_large e = record { all = λ i h. inline-by e i h (goes_inline layout (f i)) refl }

-- ---- a modern row that is not refused 14

module _ (w : List ℕ) where
  pub info_inline : goes_inline lay.Modern12 w ≡ true → get_or w ROW_INFO_OFFSET 0 ≡ 0
  unfolding goes_inline
  info_inline h =
      let a = both (fit (fields_in lay.Modern12) (values_in lay.Modern12 w)) h in
      let b = both (not (overflowed (get_or w ROW_FLAGS 0))) a.1 in
      eqb-true (get_or w ROW_INFO_OFFSET 0) 0 (both (info_free lay.Modern12 w) b.1).0

  by_info : (b : Bool) → goes_inline lay.Modern12 w ≡ b → (goes_inline lay.Modern12 w ≡ false → get_or w ROW_INFO_OFFSET 0 ≡ 0 → ⊥) → get_or w ROW_INFO_OFFSET 0 ≡ 0 → goes_inline lay.Modern12 w ≡ true
  by_info true e n h = e
  by_info false e n h = absurd (n e h)

  -- its info_offset tells whether it goes inline
  pub no_info : Ended lay.Modern12 w → get_or w ROW_INFO_OFFSET 0 ≡ 0 → goes_inline lay.Modern12 w ≡ true
  no_info n h = by_info (goes_inline lay.Modern12 w) refl (n refl) h

  large_by : (b : Bool) → goes_inline lay.Modern12 w ≡ b → (get_or w ROW_INFO_OFFSET 0 ≡ 0 → ⊥) → goes_inline lay.Modern12 w ≡ false
  large_by true e n = absurd (n (info_inline e))
  large_by false e n = e

  pub some_info : (get_or w ROW_INFO_OFFSET 0 ≡ 0 → ⊥) → goes_inline lay.Modern12 w ≡ false
  some_info n = large_by (goes_inline lay.Modern12 w) refl n

  -- so that the info_offset tells whether it goes inline
  pub info_tells : Ended lay.Modern12 w → eqb (get_or w ROW_INFO_OFFSET 0) 0 ≡ goes_inline lay.Modern12 w
  info_tells n =
      same_test (eqb (get_or w ROW_INFO_OFFSET 0) 0) (goes_inline lay.Modern12 w)
      (λ h. no_info n (eqb-true (get_or w ROW_INFO_OFFSET 0) 0 h)) (λ h. eq-eqb (get_or w ROW_INFO_OFFSET 0) 0 (info_inline h))

pub is_ended : (layout : Layout) {f : ℕ → List ℕ} {large count : ℕ} → Ends layout f large count → (i : ℕ) → i < count → Ended layout (f i)
unfolding right_end
is_ended lay.Legacy16 v i h m g z = let z : ◌≡◌ {A = Layout} lay.Legacy16 lay.Modern12 = m in absurd (cc)
is_ended lay.Modern12 {f} {large} v i h m g z =
    let e = rw g at (v.right i h) in
    let q = eqb-true (get_or (f i) ROW_INFO_OFFSET 0) (rounded (place_at lay.Modern12 f large i + large_of lay.Modern12)) e in
    omega arith
