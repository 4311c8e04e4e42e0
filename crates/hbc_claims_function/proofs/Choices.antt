-- Two choices among functions: how many there are, what is put and what is scanned by one and then by the other, and by either.
use Prim.Native.Nat.{ℕ, zero, suc, ◌+◌, ◌*◌, ◌≤◌, ◌<◌}
use mathlib.Core.Path.{◌≡◌, refl, ap, sym, ◌∙◌}
use mathlib.Core.List.{List}
use mathlib.Core.Bool.{Bool, true, false, cond}
use native.Mathlib.Omega.{arith}
use lib.ListN.{length, get_or}
use lib.Dec.{ltb}
use borrow.Author.Tests.{ltb-true, ltb-false}
use Rattle.hbc_io.specs.declared.Refusal.{Refusal}
use Rattle.hbc_io.specs.Answer.{Answer, gives, refuses}
use Rattle.hbc_io.proofs.Exits.{not_given}
use Rattle.hbc_function_record.specs.declared.Found.{Found}
use Rattle.hbc_function_record.specs.Row.{width}
use Rattle.hbc_function.specs.Table.{step, scan, put_rows}
use Rattle.hbc_function.proofs.Laws.{put_length, word_at}
use Rattle.hbc_claims_law.specs.Terms.{Either, left, right, count_of}
use Rattle.hbc_claims_function.specs.Panes.{either, both}
use Rattle.hbc_claims_function.proofs.Truths.{or_first, or_second, or_neither, or_turned, or_same}
use Rattle.hbc_claims_function.proofs.Words.{word_kept, word_past, by_words}
use Rattle.hbc_claims_function.proofs.Scans.{a_record, scan_each}

-- ---- of two choices

pub turned : (c d : ℕ → Bool) → either c d ≡ either d c
turned c d = λ j i. or_turned (c i) (d i) j

pub same_twice : (c : ℕ → Bool) → either c c ≡ c
same_twice c = λ j i. or_same (c i) j

-- ---- how many they are

count_by : (p q : Bool) (a b c d : ℕ) → a + b ≡ c + d
    → cond p (a + 1) a + cond q (b + 1) b ≡ cond (cond p true q) (c + 1) c + cond (cond p q false) (d + 1) d
count_by true true a b c d e = omega arith
count_by true false a b c d e = omega arith
count_by false true a b c d e = omega arith
count_by false false a b c d e = omega arith

pub counts_both : (c d : ℕ → Bool) (n : ℕ) → count_of c n + count_of d n ≡ count_of (either c d) n + count_of (both c d) n
unfolding count_of
counts_both c d zero = refl
counts_both c d (suc n) =
    count_by (c n) (d n) (count_of c n) (count_of d n) (count_of (either c d) n) (count_of (both c d) n) (counts_both c d n)

-- ---- what is put

module _ (c d : ℕ → Bool) (f : ℕ → Answer Found) (n k m : ℕ) (e : scan c f n ≡ gives k) (g : scan d f n ≡ gives m) (t : List ℕ) (h : n * width ≤ length t) where
  put_by : (i x : ℕ) → x < width → (lt : Bool) → ltb i n ≡ lt → (p q : Bool) → c i ≡ p → d i ≡ q
      → get_or (put_rows d f (put_rows c f t n) n) (i * width + x) 0 ≡ get_or (put_rows (either c d) f t n) (i * width + x) 0
  put_by i x l false b p q u v =
      let o : n ≤ i = ltb-false i n b in
      word_past d f (put_rows c f t n) n i x l o ∙ word_past c f t n i x l o ∙ sym (word_past (either c d) f t n i x l o)
  put_by i x l true b p true u v =
      let o : i < n = ltb-true i n b in
      let r = a_record (f i) (scan_each d f n m i o g v) in
      word_at d f (put_rows c f t n) n i x r.0 (rw (put_length c f t n) h) o l v r.1
      ∙ sym (word_at (either c d) f t n i x r.0 h o l (or_second (c i) (d i) v) r.1)
  put_by i x l true b true false u v =
      let o : i < n = ltb-true i n b in
      let r = a_record (f i) (scan_each c f n k i o e u) in
      word_kept d f (put_rows c f t n) n i x l v ∙ word_at c f t n i x r.0 h o l u r.1
      ∙ sym (word_at (either c d) f t n i x r.0 h o l (or_first (c i) (d i) u) r.1)
  put_by i x l true b false false u v =
      word_kept d f (put_rows c f t n) n i x l v ∙ word_kept c f t n i x l u ∙ sym (word_kept (either c d) f t n i x l (or_neither (c i) (d i) u v))

  -- one and then the other puts what either puts
  pub put_both : put_rows d f (put_rows c f t n) n ≡ put_rows (either c d) f t n
  put_both =
      by_words (put_rows d f (put_rows c f t n) n) (put_rows (either c d) f t n)
      (put_length d f (put_rows c f t n) n ∙ put_length c f t n ∙ sym (put_length (either c d) f t n))
      (λ i x l. put_by i x l (ltb i n) refl (c i) (d i) refl refl)

-- ---- what is scanned; each function is refused at its own number

-- a step that is refused was before, or is by this function
refused_by : (b : Bool) (x : Answer ℕ) (a : Answer Found) (r : Refusal) → step b x a ≡ refuses r → Either (x ≡ refuses r) (a ≡ refuses r)
unfolding step
refused_by false x a r e = left e
refused_by true (gives k) (gives f) r e = absurd (not_given (sym e))
refused_by true (gives k) (refuses q) r e = let z : q ≡ r = cc in right (ap refuses z)
refused_by true (refuses q) a r e = left e

refused_before : (b : Bool) (x : Answer ℕ) (a : Answer Found) {r : Refusal} → x ≡ refuses r → step b x a ≡ refuses r
unfolding step
refused_before false x a e = e
refused_before true x a e = rw e

refused_now : (x : Answer ℕ) (a : Answer Found) {k : ℕ} {r : Refusal} → x ≡ gives k → a ≡ refuses r → step true x a ≡ refuses r
unfolding step
refused_now x a e g = rw (e, g)

taken : (x : Answer ℕ) (a : Answer Found) {k : ℕ} {f : Found} → x ≡ gives k → a ≡ gives f → step true x a ≡ gives (k + 1)
unfolding step
taken x a e g = rw (e, g)

passed : (x : Answer ℕ) (a : Answer Found) → step false x a ≡ x
unfolding step
passed x a = refl

-- refused nowhere below a place
abbrev NotBelow : Answer ℕ → ℕ → Type 0
NotBelow x n = (q : Refusal) → x ≡ refuses q → n ≤ q.place

-- z is of either, x and y of one each: all of them are read; or it is refused as one of them, at the lower place
pub data Joint (x y z : Answer ℕ) : Type 0 where
  read : (k m j : ℕ) → x ≡ gives k → y ≡ gives m → z ≡ gives j → Joint x y z
  by_first : (r : Refusal) → x ≡ refuses r → NotBelow y r.place → z ≡ refuses r → Joint x y z
  by_second : (r : Refusal) → y ≡ refuses r → NotBelow x r.place → z ≡ refuses r → Joint x y z

module _ (n : ℕ) (a : Answer Found) (here : (r : Refusal) → a ≡ refuses r → r.place ≡ n) where
  -- what was refused before n is not refused lower by a step more
  still : (b : Bool) (y : Answer ℕ) (m : ℕ) → m ≤ n → NotBelow y m → NotBelow (step b y a) m
  still b y m h l q e = by (refused_by b y a q e)
    where
      by : Either (y ≡ refuses q) (a ≡ refuses q) → m ≤ q.place
      by (left g) = l q g
      by (right g) = let p = here q g in omega arith

  -- nor what is refused by this function
  at_this : (b : Bool) (y : Answer ℕ) {k : ℕ} (r : Refusal) → y ≡ gives k → a ≡ refuses r → NotBelow (step b y a) r.place
  at_this b y r g o = still b y r.place (let p = here r o in omega arith) (λ q e. absurd (not_given (sym e ∙ g)))

  joint_by : (p q : Bool) (x y z : Answer ℕ) (f : Answer Found) → f ≡ a → ((r : Refusal) → x ≡ refuses r → r.place < n) → ((r : Refusal) → y ≡ refuses r → r.place < n)
      → Joint x y z → Joint (step p x a) (step q y a) (step (cond p true q) z a)
  joint_by p q x y z f i u v (by_first r e l g) =
      by_first r (refused_before p x a e) (still q y r.place (let h = u r e in omega arith) l) (refused_before (cond p true q) z a g)
  joint_by p q x y z f i u v (by_second r e l g) =
      by_second r (refused_before q y a e) (still p x r.place (let h = v r e in omega arith) l) (refused_before (cond p true q) z a g)
  joint_by true true x y z (gives f) i u v (read k m j e g o) = read (k + 1) (m + 1) (j + 1) (taken x a e (sym i)) (taken y a g (sym i)) (taken z a o (sym i))
  joint_by true false x y z (gives f) i u v (read k m j e g o) = read (k + 1) m (j + 1) (taken x a e (sym i)) (passed y a ∙ g) (taken z a o (sym i))
  joint_by false true x y z (gives f) i u v (read k m j e g o) = read k (m + 1) (j + 1) (passed x a ∙ e) (taken y a g (sym i)) (taken z a o (sym i))
  joint_by true q x y z (refuses r) i u v (read k m j e g o) = by_first r (refused_now x a e (sym i)) (at_this q y r g (sym i)) (refused_now z a o (sym i))
  joint_by false true x y z (refuses r) i u v (read k m j e g o) = by_second r (refused_now y a g (sym i)) (at_this false x r e (sym i)) (refused_now z a o (sym i))
  joint_by false false x y z f i u v (read k m j e g o) = read k m j (passed x a ∙ e) (passed y a ∙ g) (passed z a ∙ o)

module _ (f : ℕ → Answer Found) (own : (i : ℕ) (r : Refusal) → f i ≡ refuses r → r.place ≡ i) where
  place_by : (n : ℕ) (x : Answer ℕ) (r : Refusal) → (x ≡ refuses r → r.place < n) → Either (x ≡ refuses r) (f n ≡ refuses r) → r.place < suc n
  place_by n x r l (left g) = let h = l g in omega arith
  place_by n x r l (right g) = let h = own n r g in omega arith

  scan_place : (c : ℕ → Bool) (n : ℕ) (r : Refusal) → scan c f n ≡ refuses r → r.place < n
  unfolding scan
  scan_place c zero r e = absurd (not_given (sym e))
  scan_place c (suc n) r e = place_by n (scan c f n) r (scan_place c n r) (refused_by (c n) (scan c f n) (f n) r e)

  pub joint : (c d : ℕ → Bool) (n : ℕ) → Joint (scan c f n) (scan d f n) (scan (either c d) f n)
  unfolding scan
  joint c d zero = read 0 0 0 refl refl refl
  joint c d (suc n) =
      joint_by n (f n) (own n) (c n) (d n) (scan c f n) (scan d f n) (scan (either c d) f n) (f n) refl (scan_place c n) (scan_place d n) (joint c d n)
