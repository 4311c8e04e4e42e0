-- An inline header's number in four words of 32 bits, by what its fields hold in each, for any list of fields that lie side by side in them.
use Prim.Native.Nat.{ℕ, zero, suc, ◌+◌, ◌-◌, ◌*◌, ◌/◌, ◌%◌, ◌^◌, ◌≤◌, ◌<◌, min}
use mathlib.Core.Path.{◌≡◌, refl, sym, ap, ◌∙◌}
use mathlib.Core.List.{List, [], ◌∷◌}
use mathlib.Core.Bool.{Bool, true, false, cond}
use native.Mathlib.Nat.{add-mul-div_left, add-mul-mod_self_left, div-eq_of_lt, mod-eq_of_lt, zero-add, mul_assoc, mul_comm, mod-lt, mul-le-mul_right, suc-mul, pow-le-pow_right}
use native.Mathlib.Omega.{arith}
use native.Mathlib.Numerals.{add-one}
use lib.Dec.{eqb, ltb, leb, lit<}
use Rattle.std.proofs.lemmas.List.{get_or-set_same, get_or-set_other}
use lib.ListN.{length, get_or, set, drop, length-set, drop_of_length-le}
use lib.Seq.{drop-cons}
use lib.Pow.{pow_pos, pow-add}
use borrow.Author.Tests.{ltb-true, lt-ltb, eqb-true, eqb-false, eq-eqb}
use Rattle.hbc_bits.specs.Fields.{joined, words_of}
use Rattle.hbc_bits.proofs.Fields.{both}
use Rattle.hbc_function_record.specs.declared.Layout.TheVariants as lay
use Rattle.hbc_function_record.specs.declared.bit_layout.Field.{Field}
use Rattle.hbc_function_record.specs.BitLayout.{legacy_bits, modern_bits}
use Rattle.hbc_function_record.specs.Row.{width}
use Rattle.hbc_function_bytes.specs.Bytes.{inline_number, pointer_to}
use Rattle.hbc_function_bytes.specs.Private.{placed, bits_of, held_by, packed}
use Rattle.hbc_function_bytes.proofs.FourWords.{in_four, four_words}
use Rattle.hbc_function_bytes.proofs.FourWords as four

-- ---- the fields of a header

-- what the first of them is
pub record First (k : ℕ) (e : Field × ℕ) (es : List (Field × ℕ)) : Type 0 where
  pub first : e.0.0 ≡ k
  pub end : k < 128
  pub narrow : e.0.1 < 32
  pub within : k % 32 + e.0.1 ≤ 32
  pub there : e.1 < width
  pub next : packed (k + e.0.1) es ≡ true

first_of : (k : ℕ) (e : Field × ℕ) (es : List (Field × ℕ)) → packed k (e ∷ es) ≡ true → First k e es
first_of k e es h =
    let a = both (eqb e.0.0 k) h in
    let b = both (ltb k 128) a.1 in
    let c = both (ltb e.0.1 32) b.1 in
    let d = both (leb (k % 32 + e.0.1) 32) c.1 in
    let f = both (ltb e.1 width) d.1 in
    let g = both (packed (k + e.0.1) es) f.1 in
    record {
      first = eqb-true e.0.0 k a.0;
      end = ltb-true k 128 b.0;
      narrow = ltb-true e.0.1 32 c.0;
      within = grind (arith, d.0);
      there = ltb-true e.1 width f.0;
      next = g.0;
    }

-- each begins in one of four words
in_four_words : (k : ℕ) (es : List (Field × ℕ)) → packed k es ≡ true → in_four (bits_of es) ≡ true
in_four_words k [] h = refl
in_four_words k (e ∷ es) h =
    let f = first_of k e es h in
    let l : e.0.0 / 32 < 4 = omega (arith, f.first, f.end) in
    let t : ltb (e.0.0 / 32) 4 ≡ true = lt-ltb (e.0.0 / 32) 4 l in
    rw t (in_four_words (k + e.0.1) es f.next)

-- a list of four
pub of_four : (ws : List ℕ) → length ws ≡ 4 → ws ≡ get_or ws 0 0 ∷ get_or ws 1 0 ∷ get_or ws 2 0 ∷ get_or ws 3 0 ∷ []
of_four [] e = absurd (omega arith)
of_four (a ∷ []) e = absurd (omega arith)
of_four (a ∷ b ∷ []) e = absurd (omega arith)
of_four (a ∷ b ∷ c ∷ []) e = absurd (omega arith)
of_four (a ∷ b ∷ c ∷ d ∷ []) e = refl
of_four (a ∷ b ∷ c ∷ d ∷ f ∷ ws) e = absurd (omega arith)

module _ (w : List ℕ) where
  -- what the fields of word k hold of a row w
  abbrev pub in_word : ℕ → List (Field × ℕ) → ℕ
  in_word k [] = 0
  in_word k (e ∷ es) = cond (eqb (e.0.0 / 32) k) (placed e.0.0 e.0.1 (get_or w e.1 0) + in_word k es) (in_word k es)

  -- a field, and what is below it, ends where the next begins
  placed_le : (first width v : ℕ) → placed first width v + 2 ^ (first % 32) ≤ 2 ^ (first % 32 + width)
  unfolding placed
  placed_le first width v =
      let l : suc (v % 2 ^ width) * 2 ^ (first % 32) ≤ 2 ^ width * 2 ^ (first % 32) = mul-le-mul_right (2 ^ (first % 32)) (mod-lt v (pow_pos width)) in
      rw (pow-add 2 (first % 32) width, mul_comm (2 ^ (first % 32)) (2 ^ width)) (omega (arith, l, suc-mul (v % 2 ^ width) (2 ^ (first % 32))))

  -- from bit p on they take no more of word k than is above that bit
  in_word_le : (k p : ℕ) (es : List (Field × ℕ)) → packed p es ≡ true → in_word k es + 2 ^ min 32 (p - 32 * k) ≤ 2 ^ 32
  in_word_le k p [] h = let l : 2 ^ min 32 (p - 32 * k) ≤ 2 ^ 32 = pow-le-pow_right {n = 2} (lit< tt) {i = min 32 (p - 32 * k)} {j = 32} (omega arith) in omega arith
  in_word_le k p (e ∷ es) h =
      let f = first_of p e es h in
      by (eqb (e.0.0 / 32) k) refl f (in_word_le k (p + e.0.1) es f.next)
    where
      by : (b : Bool) → eqb (e.0.0 / 32) k ≡ b → First p e es → in_word k es + 2 ^ min 32 (p + e.0.1 - 32 * k) ≤ 2 ^ 32
          → cond b (placed e.0.0 e.0.1 (get_or w e.1 0) + in_word k es) (in_word k es) + 2 ^ min 32 (p - 32 * k) ≤ 2 ^ 32
      by true q f l =
          let o : e.0.0 / 32 ≡ k = eqb-true (e.0.0 / 32) k q in
          let s : min 32 (p - 32 * k) ≡ e.0.0 % 32 = omega (arith, f.first) in
          let t : min 32 (p + e.0.1 - 32 * k) ≡ e.0.0 % 32 + e.0.1 = omega (arith, f.first, f.within) in
          let m : in_word k es + 2 ^ (e.0.0 % 32 + e.0.1) ≤ 2 ^ 32 = rw t at l in
          let n = placed_le e.0.0 e.0.1 (get_or w e.1 0) in
          rw s (omega arith)
      by false q f l =
          let m : 2 ^ min 32 (p - 32 * k) ≤ 2 ^ min 32 (p + e.0.1 - 32 * k) = pow-le-pow_right {n = 2} (lit< tt) {i = min 32 (p - 32 * k)} {j = min 32 (p + e.0.1 - 32 * k)} (omega arith) in
          omega arith

  -- as of a list of fields and one of values
  same_word : (k : ℕ) (es : List (Field × ℕ)) → four.in_word k (bits_of es) (held_by es w) ≡ in_word k es
  same_word k [] = refl
  same_word k (e ∷ es) = rw (same_word k es) refl

  -- ---- the loop

  module _ (es : List (Field × ℕ)) where
    -- what fields 0 to i - 1 hold is put, and what the others do is still to come
    pub record Packing (i : ℕ) (ws : List ℕ) : Type 0 where
      pub size : length ws ≡ 4
      pub from : ℕ
      pub others : packed from (drop i es) ≡ true
      pub words : (k : ℕ) → get_or ws k 0 + in_word k (drop i es) ≡ in_word k es

    module _ (h : packed 0 es ≡ true) where
      in_word_lt : (k : ℕ) → in_word k es < 2 ^ 32
      in_word_lt k = let l = in_word_le k 0 es h in let m = pow_pos (min 32 (0 - 32 * k)) in omega arith

      module _ {i : ℕ} {ws : List ℕ} (v : Packing i ws) where
        module _ (l : i < length es) (d : Field × ℕ) where
          abbrev now : Field × ℕ
          now = get_or es i d

          cons : drop i es ≡ now ∷ drop (suc i) es
          cons = drop-cons es i d l

          first_is : First v.from now (drop (suc i) es)
          first_is = first_of v.from now (drop (suc i) es) (rw cons at v.others)

          words_are : (k : ℕ) → get_or ws k 0 + in_word k (now ∷ drop (suc i) es) ≡ in_word k es
          words_are k = rw cons at (v.words k)

          module _ {p : ℕ} (q : p ≡ placed now.0.0 now.0.1 (get_or w now.1 0)) where
            -- there is room for the next value
            pub packing_room : get_or ws (now.0.0 / 32) 0 + p < 2 ^ 32
            packing_room =
                let m : get_or ws (now.0.0 / 32) 0 + (placed now.0.0 now.0.1 (get_or w now.1 0) + in_word (now.0.0 / 32) (drop (suc i) es)) ≡ in_word (now.0.0 / 32) es =
                rw (eq-eqb (now.0.0 / 32) (now.0.0 / 32) refl) at (words_are (now.0.0 / 32)) in
                let n = in_word_lt (now.0.0 / 32) in
                omega arith

            more : (k : ℕ) (b : Bool) → eqb (now.0.0 / 32) k ≡ b
                → get_or ws k 0 + cond b (placed now.0.0 now.0.1 (get_or w now.1 0) + in_word k (drop (suc i) es)) (in_word k (drop (suc i) es)) ≡ in_word k es
                → get_or (set ws (now.0.0 / 32) (get_or ws (now.0.0 / 32) 0 + p)) k 0 + in_word k (drop (suc i) es) ≡ in_word k es
            more k true e m =
                let o : now.0.0 / 32 ≡ k = eqb-true (now.0.0 / 32) k e in
                let n : now.0.0 / 32 < length ws = omega (arith, first_is.first, first_is.end, v.size) in
                let r = rw (← o) at m in
                rw (← o, get_or-set_same ws (now.0.0 / 32) (get_or ws (now.0.0 / 32) 0 + p) 0 n) (omega (arith, q, r))
            more k false e m =
                rw (get_or-set_other ws (now.0.0 / 32) k (get_or ws (now.0.0 / 32) 0 + p) 0 (λ o. eqb-false (now.0.0 / 32) k e (sym o))) m

            pub packing_more : Packing (i + 1) (set ws (now.0.0 / 32) (get_or ws (now.0.0 / 32) 0 + p))
            packing_more =
                rw (add-one i) (record {
                  size = length-set ws (now.0.0 / 32) (get_or ws (now.0.0 / 32) 0 + p) ∙ v.size;
                  from = v.from + now.0.1;
                  others = first_is.next;
                  words = λ k. more k (eqb (now.0.0 / 32) k) refl (words_are k);
                })

        word_is : length es ≤ i → (k : ℕ) → get_or ws k 0 ≡ in_word k es
        word_is l k = let e = rw (drop_of_length-le es l) at (v.words k) in omega arith

        pub packing_done : length es ≤ i → ws ≡ words_of 4 (joined (bits_of es) (held_by es w))
        packing_done l =
            of_four ws v.size
            ∙ rw (word_is l 0, word_is l 1, word_is l 2, word_is l 3)
            (four_words (bits_of es) (held_by es w) (in_four_words 0 es h) (in_word_lt 0) (in_word_lt 1) (in_word_lt 2) (in_word_lt 3)
            (sym (same_word 0 es)) (sym (same_word 1 es)) (sym (same_word 2 es)) (sym (same_word 3 es)))

-- ---- the inline header that says where a large one is: the place divided counts by as many bits as its field has

module _ (place : ℕ) where
  pub legacy_pointer : inline_number lay.Legacy16 (place % 65536 ∷ 0 ∷ 0 ∷ 0 ∷ place / 65536 % 2 ^ 32 ∷ 0 ∷ 0 ∷ 0 ∷ 0 ∷ 32 ∷ [])
      ≡ inline_number lay.Legacy16 (pointer_to lay.Legacy16 place)
  unfolding inline_number pointer_to joined
  legacy_pointer = let e : place / 65536 % 2 ^ 32 % 2 ^ legacy_bits.info_offset.1 ≡ place / 65536 % 2 ^ legacy_bits.info_offset.1 = omega arith in rw e

  pub modern_pointer : inline_number lay.Modern12 (place % 2 ^ 24 ∷ 0 ∷ 0 ∷ 0 ∷ place / 2 ^ 24 % 2 ^ 32 ∷ 0 ∷ 0 ∷ 0 ∷ 0 ∷ 0 ∷ 0 ∷ 0 ∷ 32 ∷ [])
      ≡ inline_number lay.Modern12 (pointer_to lay.Modern12 place)
  unfolding inline_number pointer_to joined
  modern_pointer = let e : place / 2 ^ 24 % 2 ^ 32 % 2 ^ modern_bits.name.1 ≡ place / 2 ^ 24 % 2 ^ modern_bits.name.1 = omega arith in rw e
