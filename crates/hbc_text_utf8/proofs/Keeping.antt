-- Bytes that are their own text: plain ones, characters of two, three and four bytes, and one run after another.
use Prim.Native.Nat.{ℕ, zero, suc, ◌+◌, ◌*◌, ◌-◌, ◌/◌, ◌%◌, ◌≤◌, ◌<◌}
use mathlib.Core.Path.{◌≡◌, refl, sym, ◌∙◌}
use mathlib.Core.List.{List, ◌∷◌, ◌++◌, append_assoc}
use mathlib.Core.Bool.{true, false}
use native.Mathlib.Nat.{add-zero}
use native.Mathlib.Numerals.{add-one}
use native.Mathlib.Omega.{arith}
use lib.Bits.{bit_and, and_block, and_high}
use lib.ListN.{length, take, drop, get_or}
use lib.Dec.{lit<, lit≤}
use lib.Seq.{drop-cons, take-add, drop-drop}
use borrow.Author.Tests.{lt-ltb, le-ltb, le-leb, eq-eqb}
use Rattle.hbc_bits.specs.Bits.{le_at}
use Rattle.hbc_bits.proofs.Laws.{le_step}
use Rattle.hbc_text_forms.specs.Utf8.{◌‥◌, within, row_of, passed, whole, written, utf8_text}
use Rattle.hbc_text_forms.proofs.Laws.{text_cons}
use Rattle.hbc_text_utf8.specs.Private.{low_of, high_of, is_in, agree_at, part_at, Ill, AllPlain, Kept, Found, Run}
use Rattle.hbc_text_utf8.proofs.Steps.{is_width, low_any, high_any, in_is, in_below, in_above, two_of, three_of, four_of, none_at, one_at, two_at, passed_is, text_part, whole_at, ill_none, ill_short, ill_of}

-- ---- runs

pub kept_none : (s : List ℕ) (at : ℕ) → at ≤ length s → Kept s at at
kept_none s at h =
    let e : at - at ≡ 0 = omega arith in
    record { from = omega arith; inside = h; same = sym (rw e) }

pub kept_join : (s : List ℕ) (at e f : ℕ) → Kept s at e → Kept s e f → Kept s at f
kept_join s at e f p q =
    let a : at ≤ e = p.from in
    let b : e ≤ f = q.from in
    let k : f - at ≡ (e - at) + (f - e) = omega arith in
    let l : at + (e - at) ≡ e = omega arith in
    let t : take (f - at) (drop at s) ≡ take (e - at) (drop at s) ++ take (f - e) (drop e s) =
    rw k (take-add (e - at) (f - e) (drop at s) ∙ rw (drop-drop (e - at) at s, l)) in
    record {
      from = omega arith;
      inside = q.inside;
      same = p.same ∙ rw (q.same, t, append_assoc);
    }

-- a character that is found, and none
pub found_some : (s : List ℕ) (at k : ℕ) → Kept s at (at + suc k) → Found s at (suc k)
found_some s at k p = record { kept = p; none = λ e. absurd (omega arith) }

pub found_none : (s : List ℕ) (at : ℕ) → at < length s → Ill s at → Found s at 0
found_none s at h i = record { kept = rw (add-zero at) (kept_none s at (omega arith)); none = λ e. i }

-- one run behind another
pub run_join : (s : List ℕ) (at e f : ℕ) → Kept s at e → Run s e f → Run s at f
run_join s at e f p r = record { kept = kept_join s at e f p r.kept; ends = r.ends }

-- ---- plain bytes

ascii : (b : ℕ) (s : List ℕ) → b < 0x80 → utf8_text (b ∷ s) ≡ b ∷ utf8_text s
unfolding written whole passed row_of
ascii b s h =
    let l : b ≤ 0x7F = omega arith in
    let z : 0 ≤ b = omega arith in
    text_cons b s ∙ rw (le-leb 0 b z, le-leb b 0x7F l)

pub kept_one : (s : List ℕ) (e : ℕ) → e < length s → get_or s e 0 < 0x80 → Kept s e (e + 1)
kept_one s e h l =
    let k : e + 1 - e ≡ 1 = omega arith in
    record {
      from = omega arith;
      inside = omega arith;
      same = rw (k, add-one e, drop-cons s e 0 h) (ascii (get_or s e 0) (drop (suc e) s) l);
    }

pub kept_many : (s : List ℕ) (e k : ℕ) → e + k ≤ length s → AllPlain s e k → Kept s e (e + k)
kept_many s e zero h a = rw (add-zero e) (kept_none s e (omega arith))
kept_many s e (suc k) h a =
    let i : e + k + 1 ≡ e + suc k = omega arith in
    rw (← i) (kept_join s e (e + k) (e + k + 1) (kept_many s e k (omega arith) (λ j l. a j (omega arith))) (kept_one s (e + k) (omega arith) (a k (omega arith))))

-- the last k bytes, of which some were passed already
pub kept_last : (s : List ℕ) (e k : ℕ) → Kept s 0 e → k ≤ length s → length s - e < k → AllPlain s (length s - k) k → Kept s 0 (length s)
kept_last s e k p h l a =
    let i : e ≤ length s = p.inside in
    let j : e + (length s - e) ≡ length s = omega arith in
    kept_join s 0 e (length s) p (rw j at (kept_many s e (length s - e) (omega arith) plain))
  where
    plain : AllPlain s e (length s - e)
    plain x u =
        let q : (length s - k) + (e + x - (length s - k)) ≡ e + x = omega (arith, p.inside) in
        rw q at (a (e + x - (length s - k)) (omega (arith, p.inside)))

-- ---- the top bits of so many bytes at once

abbrev tops : ℕ → ℕ
tops zero = 0
tops (suc n) = 128 + 256 * tops n

bit_clear : (d : ℕ) → d < 2 → d % 2 * 128 ≡ 0 → d ≡ 0
bit_clear zero h e = refl
bit_clear (suc zero) h e = let q : ◌≡◌ {A = ℕ} 128 0 = e in absurd (omega arith)
bit_clear (suc (suc d)) h e = absurd (omega arith)

top_clear : (b k : ℕ) → b < 256 → k ≡ b / 128 % 2 * 128 → k ≡ 0 → b < 0x80
top_clear b k h e z =
    let q : b / 128 ≡ 0 = bit_clear (b / 128) (omega arith) (sym e ∙ z) in
    omega arith

both_none : (x y : ℕ) → x * 256 + y ≡ 0 → (x ≡ 0) × (y ≡ 0)
both_none x y e = (omega arith, omega arith)

top_step : (b x m : ℕ) → b < 256 → bit_and (b + 256 * x) (128 + 256 * m) ≡ 0 → (b < 0x80) × (bit_and x m ≡ 0)
top_step b x m h e =
    let p : b + 256 * x ≡ x * 256 + b = omega arith in
    let q : 128 + 256 * m ≡ m * 256 + 128 = omega arith in
    let s : bit_and x m * 256 + bit_and b 128 ≡ 0 = sym (and_block 8 x m b 128 h (lit< tt)) ∙ rw (← p, ← q) e in
    let z = both_none (bit_and x m) (bit_and b 128) s in
    (top_clear b (bit_and b 128) h (and_high b 1 7) z.1, z.0)

plain_cons : (s : List ℕ) (at n : ℕ) → get_or s at 0 < 0x80 → AllPlain s (suc at) n → AllPlain s at (suc n)
plain_cons s at n h a zero l = rw (add-zero at) h
plain_cons s at n h a (suc j) l =
    let e : suc at + j ≡ at + suc j = omega arith in
    rw (← e) (a j (omega arith))

tops_clear : (s : List ℕ) (at n : ℕ) → ((i : ℕ) → get_or s i 0 < 256) → at + n ≤ length s → bit_and (le_at s at n) (tops n) ≡ 0 → AllPlain s at n
tops_clear s at zero b h e = λ j l. absurd (omega arith)
tops_clear s at (suc n) b h e =
    let t = top_step (get_or s at 0) (le_at s (suc at) n) (tops n) (b at) (rw (le_step s at n (omega arith)) at e) in
    plain_cons s at n t.0 (tops_clear s (suc at) n b (omega arith) t.1)

pub eight_plain : (s : List ℕ) (at w : ℕ) → ((i : ℕ) → get_or s i 0 < 256) → at + 8 ≤ length s → w ≡ le_at s at 8 → bit_and w 0x8080_8080_8080_8080 ≡ 0 → AllPlain s at 8
eight_plain s at w b h e z = tops_clear s at 8 b h (rw (← e) z)

-- ---- a character

kept_part : (s : List ℕ) (at k : ℕ) → at + suc k ≤ length s → passed (get_or s at 0) (drop (suc at) s) ≡ k → length (row_of (get_or s at 0)) ≡ suc k → Kept s at (at + suc k)
unfolding part_at written whole
kept_part s at k h p l =
    let i : at < length s = omega arith in
    let z : at + suc k - at ≡ suc k = omega arith in
    let b : ℕ = get_or s at 0 in
    let r : List ℕ = drop (suc at) s in
    let w : whole b r ≡ true = rw (p, l) (eq-eqb (suc k) (suc k) refl) in
    let t : written b r ≡ take (suc k) (drop at s) = rw (drop-cons s at 0 i, ← p) (whole_at b r (whole b r) w) in
    record {
      from = omega arith;
      inside = h;
      same = text_part s at i ∙ rw (t, z, p);
    }

in_within : (s : List ℕ) (at lo hi : ℕ) → at < length s → within (lo ‥ hi) (get_or s at 0) ≡ true → is_in lo hi (drop at s) ≡ true
in_within s at lo hi h e = rw (drop-cons s at 0 h) e

out_within : (s : List ℕ) (at lo hi : ℕ) → at < length s → within (lo ‥ hi) (get_or s at 0) ≡ false → is_in lo hi (drop at s) ≡ false
out_within s at lo hi h e = rw (drop-cons s at 0 h) e

module _ (s : List ℕ) (at : ℕ) (b : ℕ) (e : b ≡ get_or s at 0) (small : b < 256) where
  part_of : (k n lo hi : ℕ) → at + suc k ≤ length s → n ≡ suc k → length (row_of b) ≡ n → lo ≡ low_of b → hi ≡ high_of b → k ≡ agree_at n lo hi (drop (at + 1) s) → Kept s at (at + suc k)
  part_of k n lo hi h m w p q a =
      kept_part s at k h
      (sym (a ∙ rw (← w, p, q, passed_is b (drop (at + 1) s), e, add-one at)))
      (rw (← e) (w ∙ m))

  width_2 : 0xC2 ≤ b → b < 0xE0 → length (row_of b) ≡ 2
  width_2 l u = is_width b small ∙ rw (le-ltb b 0x80 (omega arith), le-ltb b 0xC2 l, lt-ltb b 0xE0 u)

  pub width_3 : 0xE0 ≤ b → b < 0xF0 → length (row_of b) ≡ 3
  width_3 l u = is_width b small ∙ rw (le-ltb b 0x80 (omega arith), le-ltb b 0xC2 (omega arith), le-ltb b 0xE0 l, lt-ltb b 0xF0 u)

  pub width_4 : 0xF0 ≤ b → b ≤ 0xF4 → length (row_of b) ≡ 4
  width_4 l u =
      is_width b small ∙ rw (le-ltb b 0x80 (omega arith), le-ltb b 0xC2 (omega arith), le-ltb b 0xE0 (omega arith), le-ltb b 0xF0 l, lt-ltb b 0xF5 (omega arith))

  -- a byte that begins no row
  pub none_low : at < length s → 0x80 ≤ b → b < 0xC2 → Found s at 0
  none_low h l u = found_none s at h (ill_none s at b e (is_width b small ∙ rw (le-ltb b 0x80 l, lt-ltb b 0xC2 u)))

  pub none_high : at < length s → 0xF4 < b → Found s at 0
  none_high h l =
      found_none s at h
      (ill_none s at b e
      (is_width b small
      ∙ rw (le-ltb b 0x80 (omega arith), le-ltb b 0xC2 (omega arith), le-ltb b 0xE0 (omega arith), le-ltb b 0xF0 (omega arith), le-ltb b 0xF5 (omega arith))))

  module _ (h : at < length s) where
    pub short_2 : 0xC2 ≤ b → b < 0xE0 → length s - at < 2 → Found s at 0
    short_2 l u k = found_none s at h (ill_short s at b e 2 h (width_2 l u) k)

    pub short_3 : 0xE0 ≤ b → b < 0xF0 → length s - at < 3 → Found s at 0
    short_3 l u k = found_none s at h (ill_short s at b e 3 h (width_3 l u) k)

    pub short_4 : 0xF0 ≤ b → b ≤ 0xF4 → length s - at < 4 → Found s at 0
    short_4 l u k = found_none s at h (ill_short s at b e 4 h (width_4 l u) k)

  -- two bytes: any second byte of those that may follow
  module _ (l : 0xC2 ≤ b) (u : b < 0xE0) (h : at + 2 ≤ length s) where
    low_two : 0x80 ≡ low_of b
    low_two = low_any b small (λ x. omega arith) (λ x. omega arith)

    high_two : 0xBF ≡ high_of b
    high_two = high_any b small (λ x. omega arith) (λ x. omega arith)

    pub is_two : within (0x80 ‥ 0xBF) (get_or s (at + 1) 0) ≡ true → Found s at 2
    is_two f =
        found_some s at 1
        (part_of 1 2 0x80 0xBF h refl (width_2 l u) low_two high_two (two_of s (at + 1) 2 0x80 0xBF refl (in_within s (at + 1) 0x80 0xBF (omega arith) f)))

    pub not_two : within (0x80 ‥ 0xBF) (get_or s (at + 1) 0) ≡ false → Found s at 0
    not_two f =
        found_none s at (omega arith)
        (ill_of s at b e 0 2 0x80 0xBF (width_2 l u) low_two high_two
        (none_at s (at + 1) 2 0x80 0xBF (lit≤ tt) (out_within s (at + 1) 0x80 0xBF (omega arith) f)) (λ x. omega arith))

  -- three or four: n of them, the second from lo to hi
  module _ (n : ℕ) (w : length (row_of b) ≡ n) (few : 3 ≤ n) (h : at + n ≤ length s) (lo hi : ℕ) (p : lo ≡ low_of b) (q : hi ≡ high_of b) where
    pub second_below : get_or s (at + 1) 0 < lo → Found s at 0
    second_below g =
        found_none s at (omega arith)
        (ill_of s at b e 0 n lo hi w p q (none_at s (at + 1) n lo hi (omega arith) (sym (in_below s (at + 1) lo hi (omega arith) g))) (λ x. omega arith))

    pub second_above : hi < get_or s (at + 1) 0 → Found s at 0
    second_above g =
        found_none s at (omega arith)
        (ill_of s at b e 0 n lo hi w p q (none_at s (at + 1) n lo hi (omega arith) (sym (in_above s (at + 1) lo hi (omega arith) g))) (λ x. omega arith))

    module _ (g : lo ≤ get_or s (at + 1) 0) (t : get_or s (at + 1) 0 ≤ hi) where
      second : is_in lo hi (drop (at + 1) s) ≡ true
      second = sym (in_is s (at + 1) lo hi (omega arith) g t)

      behind : at + 1 + 1 ≡ at + 2
      behind = omega arith

      pub not_third : within (0x80 ‥ 0xBF) (get_or s (at + 2) 0) ≡ false → Found s at 0
      not_third f =
          found_none s at (omega arith)
          (ill_of s at b e 1 n lo hi w p q
          (one_at s (at + 1) n lo hi (omega arith) (λ x. omega arith) second (rw behind (out_within s (at + 2) 0x80 0xBF (omega arith) f))) (λ x. omega arith))

      module _ (f : within (0x80 ‥ 0xBF) (get_or s (at + 2) 0) ≡ true) where
        third : is_in 0x80 0xBF (drop (at + 1 + 1) s) ≡ true
        third = rw behind (in_within s (at + 2) 0x80 0xBF (omega arith) f)

        after : at + 1 + 2 ≡ at + 3
        after = omega arith

        pub is_three : n ≡ 3 → Found s at 3
        is_three m = found_some s at 2 (part_of 2 n lo hi (omega arith) m w p q (three_of s (at + 1) n lo hi (omega arith) (λ x. omega arith) second third m))

        pub not_fourth : n ≡ 4 → within (0x80 ‥ 0xBF) (get_or s (at + 3) 0) ≡ false → Found s at 0
        not_fourth m r =
            found_none s at (omega arith)
            (ill_of s at b e 2 n lo hi w p q
            (two_at s (at + 1) n lo hi (omega arith) (λ x. omega arith) second third (λ x. omega arith) (rw after (out_within s (at + 3) 0x80 0xBF (omega arith) r)))
            (λ x. omega arith))

        pub is_four : n ≡ 4 → within (0x80 ‥ 0xBF) (get_or s (at + 3) 0) ≡ true → Found s at 4
        is_four m r =
            found_some s at 3
            (part_of 3 n lo hi (omega arith) m w p q
            (four_of s (at + 1) n lo hi (omega arith) (λ x. omega arith) second third (λ x. omega arith) (rw after (in_within s (at + 3) 0x80 0xBF (omega arith) r))))
