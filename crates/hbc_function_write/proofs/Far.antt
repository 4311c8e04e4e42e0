-- A place that is far off gives the same answer as one that is farther; and what the check's answer says of the call's.
use Prim.Native.Nat.{ℕ, zero, suc, ◌+◌, ◌*◌, ◌^◌, ◌≤◌, ◌<◌, min}
use mathlib.Core.Path.{◌≡◌, refl, sym, ap, ◌∙◌}
use mathlib.Core.List.{List}
use Rattle.std.specs.Prelude.{Result, Ok, Err}
use mathlib.Core.Bool.{Bool, true, false, cond}
use mathlib.Core.Logic.{◌⊎◌, inl, inr, ⊎_elim}
use native.Mathlib.Omega.{arith}
use lib.ListN.{length, get_or}
use lib.Dec.{ltb, eqb, lit<}
use borrow.Author.Tests.{ltb-true, ltb-false, ne_eqb, eqb-true}
use Rattle.hbc_io.specs.declared.Refusal.{Refusal}
use Rattle.hbc_io.specs.Outcome.{limit, refusal_at}
use Rattle.hbc_io.specs.Answer.{Answer, gives, refuses, and_then}
use Rattle.hbc_io.specs.Answers.{answered}
use Rattle.hbc_io.proofs.Exits.{is_below, not_below}
use Rattle.hbc_rows.specs.Rows.{row_at}
use Rattle.hbc_function_record.specs.declared.Layout.{Layout}
use Rattle.hbc_function_record.specs.declared.Layout.TheVariants as lay
use Rattle.hbc_function_record.specs.Record.{size_of, large_of}
use Rattle.hbc_function_record.specs.Row.{width, ROW_INFO_OFFSET}
use Rattle.hbc_function_bytes.specs.Bytes.{goes_inline, right_row}
use Rattle.hbc_function_write.specs.Write.{rounded, place_at, end_at, table_end, says_end, right_end, checked, follows, right_rows, fitting}
use Rattle.hbc_function_write.specs.Private.{Room, Ends, Inlines, far}
use Rattle.hbc_function_write.proofs.Places.{place_after, none_large}
use Rattle.hbc_function_write.proofs.Plans.{checked_same, through, all_checked}
use Rattle.hbc_function_write.proofs.Plains.{row_word}

-- ---- two far places

far_end : (layout : Layout) (w : List ℕ) (a b : ℕ) → get_or w ROW_INFO_OFFSET 0 < 2 ^ 32 → 2 ^ 32 ≤ a → 2 ^ 32 ≤ b → says_end layout w a ≡ says_end layout w b
far_end lay.Legacy16 w a b h k l = refl
far_end lay.Modern12 w a b h k l =
    ne_eqb (get_or w ROW_INFO_OFFSET 0) a (λ e. omega arith) ∙ sym (ne_eqb (get_or w ROW_INFO_OFFSET 0) b (λ e. omega arith))

module _ (layout : Layout) (f : ℕ → List ℕ) (large near : ℕ) where
  module _ (h : far ≤ large) (k : far ≤ near) where
    right_by : (i : ℕ) (b : Bool) → get_or (f i) ROW_INFO_OFFSET 0 < 2 ^ 32
        → cond b true (says_end layout (f i) (rounded (place_at layout f near i + large_of layout)))
        ≡ cond b true (says_end layout (f i) (rounded (place_at layout f large i + large_of layout)))
    right_by i true u = refl
    right_by i false u =
        let p = place_after layout f near i in
        let q = place_after layout f large i in
        far_end layout (f i) (rounded (place_at layout f near i + large_of layout)) (rounded (place_at layout f large i + large_of layout)) u (omega arith) (omega arith)

    far_right : (i : ℕ) → get_or (f i) ROW_INFO_OFFSET 0 < 2 ^ 32 → right_end layout f near i ≡ right_end layout f large i
    unfolding right_end
    far_right i u = right_by i (goes_inline layout (f i)) u

  -- ends are the same, or both far
  abbrev Alike : ℕ → ℕ → Type 0
  Alike a b = (a ≡ b) ⊎ ((far ≤ a) × (far ≤ b))

  module _ (table : ℕ) (h : far ≤ large) (k : far ≤ near) where
    ends_by : (i : ℕ) (b : Bool) → Alike (end_at layout f near table i) (end_at layout f large table i)
        → Alike (cond b (end_at layout f near table i) (place_at layout f near i + large_of layout)) (cond b (end_at layout f large table i) (place_at layout f large i + large_of layout))
    ends_by i true p = p
    ends_by i false p =
        let u = place_after layout f near i in
        let v = place_after layout f large i in
        inr (omega arith, omega arith)

    ends : (n : ℕ) → Alike (end_at layout f near table n) (end_at layout f large table n)
    unfolding end_at
    ends zero = inl refl
    ends (suc n) = ends_by n (goes_inline layout (f n)) (ends n)

-- ---- the nearer of a place and the far one

pub record Near (layout : Layout) (f : ℕ → List ℕ) (large near table count n : ℕ) : Type 0 where
  pub right : (i : ℕ) → i < count → right_end layout f near i ≡ right_end layout f large i
  pub short : n < end_at layout f near table count → n < end_at layout f large table count
  pub whole : end_at layout f near table count ≤ n → end_at layout f near table count ≡ end_at layout f large table count

module _ (layout : Layout) (f : ℕ → List ℕ) (large table count n : ℕ) (u : (i : ℕ) → i < count → get_or (f i) ROW_INFO_OFFSET 0 < 2 ^ 32) (small : n ≤ limit) where
  near_same : {near : ℕ} → near ≡ large → Near layout f large near table count n
  near_same e = rw e (record { right = λ i h. refl; short = λ h. h; whole = λ h. refl })

  near_far : (near : ℕ) → far ≤ large → far ≤ near → Near layout f large near table count n
  near_far near h k =
      let s = ends layout f large near table h k count in
      record {
        right = λ i l. far_right layout f large near h k i (u i l);
        short = λ l. ⊎_elim (λ e. omega (arith, e)) (λ g. omega (arith, g)) s;
        whole = λ l. ⊎_elim (λ e. e) (λ g. absurd (omega (arith, g))) s;
      }

  near_by : (b : Bool) → ltb far large ≡ b → {near : ℕ} → near ≡ min large far → Near layout f large near table count n
  near_by true e {near} p = let h = ltb-true far large e in near_far near (omega arith) (omega arith)
  near_by false e p = let h = ltb-false far large e in near_same (omega arith)

  pub is_near : {near : ℕ} → near ≡ min large far → Near layout f large near table count n
  is_near p = near_by (ltb far large) refl p

-- ---- the check's answer, and the call's

module _ {A B : Type 0} where
  two_refuse : (a b : Answer (Unit {0})) (x : Refusal) (e : A) (o : Answer B) → refuses x ≡ and_then a (λ u. and_then b (λ v. gives e)) → refuses x ≡ and_then a (λ u. and_then b (λ v. o))
  two_refuse (gives u) (gives v) x e o h = let z : ◌≡◌ {A = ℕ} 0 1 = cc in absurd (omega arith)
  two_refuse (gives u) (refuses y) x e o h = let z : x ≡ y = cc in ap refuses z
  two_refuse (refuses y) b x e o h = let z : x ≡ y = cc in ap refuses z

  two_give : (a b : Answer (Unit {0})) (n e : A) (o : Answer B) → gives n ≡ and_then a (λ u. and_then b (λ v. gives e)) → (n ≡ e) × (o ≡ and_then a (λ u. and_then b (λ v. o)))
  two_give (gives u) (gives v) n e o h = (cc, refl)
  two_give (gives u) (refuses y) n e o h = let z : ◌≡◌ {A = ℕ} 0 1 = cc in absurd (omega arith)
  two_give (refuses y) b n e o h = let z : ◌≡◌ {A = ℕ} 0 1 = cc in absurd (omega arith)

module _ (rows : List ℕ) (layout : Layout) (count large near table n : ℕ) (v : Near layout (row_at width rows) large near table count n) (r : Result ℕ Refusal)
    (a : answered r ≡ right_rows rows layout count near (gives (end_at layout (row_at width rows) near table count))) where
  rows_same : {B : Type 0} (o : Answer B) → right_rows rows layout count near o ≡ right_rows rows layout count large o
  rows_same o =
      ap (λ (c : Answer (Unit {0})). follows (checked 13 (λ i. right_row layout i (row_at width rows i)) count) (follows c o))
      (checked_same 14 (right_end layout (row_at width rows) near) (right_end layout (row_at width rows) large) count v.right)

  -- refused: so is the call
  pub check_refuses : {x : Refusal} (o : Answer ℕ) → r ≡ Err x → refuses x ≡ right_rows rows layout count large o
  unfolding follows
  check_refuses {x} o e =
      let h : refuses x ≡ right_rows rows layout count near (gives (end_at layout (row_at width rows) near table count)) = rw e at a in
      two_refuse (checked 13 (λ i. right_row layout i (row_at width rows i)) count) (checked 14 (right_end layout (row_at width rows) near) count) x
      (end_at layout (row_at width rows) near table count) o h
      ∙ rows_same o

  -- given: the call goes on, and the end is its own where the buffer has room for it
  pub check_gives : {end : ℕ} (o : Answer ℕ) → r ≡ Ok end → o ≡ right_rows rows layout count large o
  unfolding follows
  check_gives {end} o e =
      let h : gives end ≡ right_rows rows layout count near (gives (end_at layout (row_at width rows) near table count)) = rw e at a in
      (two_give (checked 13 (λ i. right_row layout i (row_at width rows i)) count) (checked 14 (right_end layout (row_at width rows) near) count) end
      (end_at layout (row_at width rows) near table count) o h).1
      ∙ rows_same o

  pub check_end : {end : ℕ} → r ≡ Ok end → end ≡ end_at layout (row_at width rows) near table count
  unfolding follows
  check_end {end} e =
      let h : gives end ≡ right_rows rows layout count near (gives (end_at layout (row_at width rows) near table count)) = rw e at a in
      (two_give {B = ℕ} (checked 13 (λ i. right_row layout i (row_at width rows i)) count) (checked 14 (right_end layout (row_at width rows) near) count) end
      (end_at layout (row_at width rows) near table count) (gives 0) h).0

-- ---- the ways out of the call, once the rows were looked at

module _ (rows : List ℕ) (layout : Layout) (start count large : ℕ) (b : List ℕ) {size near : ℕ} (z : size ≡ size_of layout) (n : near ≡ min large far)
    (u : (k : ℕ) → get_or rows k 0 < 2 ^ 32) (small : length b ≤ limit) (r : Result ℕ Refusal)
    (a : answered r ≡ right_rows rows layout count near (gives (end_at layout (row_at width rows) near (start + count * size) count))) where
  abbrev last : Answer ℕ
  last = fitting large (table_end layout start count) (end_at layout (row_at width rows) large (table_end layout start count) count) (length b)

  table_is : start + count * size ≡ table_end layout start count
  table_is = ap (λ (k : ℕ). start + count * k) z

  own : answered r ≡ right_rows rows layout count near (gives (end_at layout (row_at width rows) near (table_end layout start count) count))
  own = rw table_is at a

  nearby : Near layout (row_at width rows) large near (table_end layout start count) count (length b)
  nearby = is_near layout (row_at width rows) large (table_end layout start count) count (length b) (λ i l. rw (row_word rows i ROW_INFO_OFFSET (lit< tt)) (u (i * width + ROW_INFO_OFFSET))) small n

  pub call_refuses : {x : Refusal} → r ≡ Err x → refuses x ≡ right_rows rows layout count large last
  call_refuses e = check_refuses rows layout count large near (table_end layout start count) (length b) nearby r own last e

  module _ {end : ℕ} (e : r ≡ Ok end) where
    goes_on : last ≡ right_rows rows layout count large last
    goes_on = check_gives rows layout count large near (table_end layout start count) (length b) nearby r own last e

    end_is : end ≡ end_at layout (row_at width rows) near (table_end layout start count) count
    end_is = check_end rows layout count large near (table_end layout start count) (length b) nearby r own e

    pub call_before : {y : Refusal} → large < start + count * size → y ≡ refusal_at 15 0 → refuses y ≡ right_rows rows layout count large last
    call_before h q = is_below large (table_end layout start count) _ _ (rw table_is at h) (ap refuses q) ∙ goes_on

    module _ (h : start + count * size ≤ large) where
      pub call_short : {y : Refusal} → length b < end → y ≡ refusal_at 4 0 → refuses y ≡ right_rows rows layout count large last
      call_short l q =
          not_below large (table_end layout start count) _ _ (rw table_is at h)
          (is_below (length b) (end_at layout (row_at width rows) large (table_end layout start count) count) _ _ (nearby.short (rw end_is at l)) (ap refuses q))
          ∙ goes_on

      module _ (l : end ≤ length b) where
        whole : end ≡ end_at layout (row_at width rows) large (table_end layout start count) count
        whole = end_is ∙ nearby.whole (rw end_is at l)

        pub call_fits : gives end ≡ right_rows rows layout count large last
        call_fits =
            not_below large (table_end layout start count) _ _ (rw table_is at h)
            (not_below (length b) (end_at layout (row_at width rows) large (table_end layout start count) count) _ _ (rw whole at l) (ap gives whole))
            ∙ goes_on

        pub call_ends : Ends layout (row_at width rows) large count
        call_ends =
            let h : gives end ≡ right_rows rows layout count near (gives (end_at layout (row_at width rows) near (table_end layout start count) count)) = rw e at own in
            let t = through _ _ (sym h) in
            record {
              right =
                  λ i l. sym (nearby.right i l) ∙ all_checked 14 (right_end layout (row_at width rows) near) count i l (through _ _ t.1).0;
            }

        pub call_room : Room layout (row_at width rows) start large count (length b)
        call_room = record { after = rw table_is at h; room = rw whole at l }

        -- where it ends with the table, all rows go inline
        pub call_inline : eqb end (start + count * size) ≡ true → Inlines layout (row_at width rows) count
        call_inline q = none_large call_room (sym whole ∙ eqb-true end (start + count * size) q ∙ table_is)
