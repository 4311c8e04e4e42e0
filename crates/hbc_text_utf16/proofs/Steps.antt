-- The text, scalar value by scalar value: counted and written.
use Prim.Native.Nat.{ℕ, ◌+◌, ◌*◌, ◌-◌, ◌%◌, ◌≤◌, ◌<◌}
use mathlib.Core.Path.{◌≡◌, refl, sym, ap, ◌∙◌}
use mathlib.Core.Logic.{inl, inr}
use mathlib.Core.List.{List, [], ◌∷◌, ◌++◌}
use mathlib.Core.Bool.{Bool, true, false, cond, ◌&&◌}
use native.Mathlib.Omega.{arith}
use lib.ListN.{length, set, drop, get_or, length-append, length-drop, drop_of_length-le}
use lib.Dec.{lit<}
use lib.Seq.{sets, drop-drop, get_or-drop}
use Rattle.hbc_text_forms.specs.Scalars.{Scalar, Scalars, more, encode, encode_all}
use Rattle.hbc_text_forms.specs.Utf16.{units, is_high, is_low, is_surrogate, pair_of, alone, scalars}
use Rattle.hbc_text_forms.specs.Text.{over}
use Rattle.hbc_text_forms.proofs.Wide.{units_below, scalars_of}
use Rattle.hbc_text_forms.proofs.Writing.{Writing, write_first, write_more, write_end, write_length, write_room}
use Rattle.hbc_text_utf16.specs.declared.Code.{Code}
use Rattle.hbc_text_utf16.specs.Private.{unit_at, text_of, code_of, code_at}
use Rattle.hbc_text_utf16.proofs.Units.{out_below, code_plain}
use Rattle.hbc_text_utf16.proofs.Sizes.{size_1, put_1}

-- ---- one scalar value

-- c is read off the front of the bytes r
record Front (r : List ℕ) (c : Code) : Type 0 where
  pub some : 2 ≤ c.taken
  pub inside : c.taken ≤ length r
  pub even : c.taken % 2 ≡ 0
  pub text : text_of r ≡ encode c.scalar ++ text_of (drop c.taken r)

front_at : (a b x y : ℕ) (r : List ℕ) (w : Bool) → (is_high (a + 256 * b) && is_low (x + 256 * y)) ≡ w
    → Front (a ∷ b ∷ x ∷ y ∷ r) (cond w (record { taken = 4; scalar = pair_of (a + 256 * b) (x + 256 * y) }) (record { taken = 2; scalar = alone (a + 256 * b) }))
unfolding text_of units scalars encode_all
front_at a b x y r true e = record { some = omega arith; inside = omega arith; even = refl; text = rw e }
front_at a b x y r false e = record { some = omega arith; inside = omega arith; even = refl; text = rw e }

front : (r : List ℕ) → 2 ≤ length r → Front r (code_of (units r))
unfolding text_of units scalars encode_all
front [] h = absurd (omega arith)
front (a ∷ []) h = absurd (omega arith)
front (a ∷ b ∷ []) h = record { some = omega arith; inside = omega arith; even = refl; text = refl }
front (a ∷ b ∷ x ∷ []) h = record { some = omega arith; inside = omega arith; even = refl; text = refl }
front (a ∷ b ∷ x ∷ y ∷ r) h = front_at a b x y r (is_high (a + 256 * b) && is_low (x + 256 * y)) refl

top : {c : ℕ} → Scalar c → c < 0x110000
top (inl h) = omega arith
top (inr p) = p.1

top_at : (u v : ℕ) (us : List ℕ) (w : Bool) → Scalars (cond w (pair_of u v ∷ scalars us) (alone u ∷ scalars (v ∷ us)))
    → (cond {A = Code} w (record { taken = 4; scalar = pair_of u v }) (record { taken = 2; scalar = alone u })).scalar < 0x110000
top_at u v us true (more h hs) = top h
top_at u v us false (more h hs) = top h

code_top : (us : List ℕ) → Scalars (scalars us) → (code_of us).scalar < 0x110000
unfolding scalars
code_top [] h = lit< tt
code_top (u ∷ []) (more h hs) = top h
code_top (u ∷ v ∷ us) h = top_at u v us (is_high u && is_low v) h

code_front : (s : List ℕ) (at : ℕ) → at + 2 ≤ length s → Front (drop at s) (code_at s at)
unfolding code_at
code_front s at h = front (drop at s) (rw (length-drop at s) (omega arith))

pub code_below : (s : List ℕ) (at : ℕ) → ((i : ℕ) → get_or s i 0 < 256) → (code_at s at).scalar < 0x110000
unfolding code_at
code_below s at h = code_top (units (drop at s)) (scalars_of (units (drop at s)) (units_below (drop at s) (λ i. rw (get_or-drop at s i 0) (h (at + i)))))

text_nil : text_of [] ≡ []
unfolding text_of units scalars encode_all
text_nil = refl

text_none : (s : List ℕ) (at : ℕ) → length s ≤ at → text_of (drop at s) ≡ []
text_none s at h = rw (drop_of_length-le s h) text_nil

-- ---- a place between two units

pub record Between (s : List ℕ) (at : ℕ) : Type 0 where
  pub inside : at ≤ length s
  pub even : (length s - at) % 2 ≡ 0

pub between_first : (s : List ℕ) → length s % 2 ≡ 0 → Between s 0
between_first s e = record { inside = omega arith; even = omega arith }

module _ (s : List ℕ) (at : ℕ) (b : Between s at) (h : at < length s) where
  pub two_left : at + 2 ≤ length s
  two_left = omega (arith, b.even)

  module _ (c : Code) (e : c ≡ code_at s at) where
    front_of : Front (drop at s) c
    front_of = rw e (code_front s at two_left)

    pub some_taken : (0 < c.taken) × (at + c.taken ≤ length s)
    some_taken =
        let f = front_of in
        let l : length (drop at s) ≡ length s - at = length-drop at s in
        (omega (arith, f.some), omega (arith, f.inside))

    between_more : Between s (at + c.taken)
    between_more = record { inside = some_taken.1; even = omega (arith, b.even, front_of.even, some_taken.1) }

    text_code : text_of (drop at s) ≡ encode c.scalar ++ text_of (drop (at + c.taken) s)
    text_code = front_of.text ∙ rw (drop-drop c.taken at s)

    code_length : length (text_of (drop at s)) ≡ length (encode c.scalar) + length (text_of (drop (at + c.taken) s))
    code_length = ap length text_code ∙ length-append (encode c.scalar) (text_of (drop (at + c.taken) s))

-- ---- written

pub record Putting (s before : List ℕ) (at n : ℕ) (d : List ℕ) : Type 0 where
  pub between : Between s at
  pub writing : Writing (text_of s) before n (text_of (drop at s)) d

pub put_first : (s before : List ℕ) → length s % 2 ≡ 0 → length (text_of s) ≤ length before → Putting s before 0 0 before
put_first s before e h = record { between = between_first s e; writing = write_first (text_of s) before h }

module _ (s before : List ℕ) (at n : ℕ) {d : List ℕ} (p : Putting s before at n d) where
  pub put_length : length d ≡ length before
  put_length = write_length (text_of s) before n p.writing

  pub put_end : length s ≤ at → (n ≡ length (text_of s)) × (d ≡ over (text_of s) before)
  put_end h =
      let w : Writing (text_of s) before n [] d = rw (text_none s at h) at p.writing in
      let e : length (text_of s) - n ≡ 0 = sym (length-drop n (text_of s)) ∙ ap length w.left in
      (omega (arith, w.counted), write_end (text_of s) before n w)

  module _ (c : Code) (h : at < length s) (q : c ≡ code_at s at) where
    pub code_room : n + length (encode c.scalar) ≤ length d
    code_room = omega (arith, write_room (text_of s) before n p.writing, code_length s at p.between h c q)

    pub put_more : {x : List ℕ} {k : ℕ} → k ≡ length (encode c.scalar) → x ≡ sets d n (encode c.scalar) → Putting s before (at + c.taken) (n + k) x
    put_more l eq =
        record {
          between = between_more s at p.between h c q;
          writing = rw (eq, l) (write_more (text_of s) before n (encode c.scalar) (rw (text_code s at p.between h c q) at p.writing));
        }

  -- a unit that is no surrogate, and one of ASCII
  module _ (u : ℕ) (h : at < length s) (e : u ≡ unit_at s at) where
    module _ {w : Bool} (t : w ≡ is_surrogate u) (f : w ≡ false) where
      plain : ◌≡◌ {A = Code} (record { taken = 2; scalar = u }) (code_at s at)
      plain = code_plain s at u (two_left s at p.between h) e t f

      pub plain_room : n + length (encode u) ≤ length d
      plain_room = code_room (record { taken = 2; scalar = u }) h plain

      pub plain_more : {x : List ℕ} {k : ℕ} → k ≡ length (encode u) → x ≡ sets d n (encode u) → Putting s before (at + 2) (n + k) x
      plain_more = put_more (record { taken = 2; scalar = u }) h plain

    module _ (l : u < 0x80) where
      ascii : false ≡ is_surrogate u
      ascii = out_below 0xD800 0xDFFF u (omega arith)

      pub ascii_room : n < length d
      ascii_room = omega (arith, plain_room ascii refl, size_1 u l)

      pub ascii_more : Putting s before (at + 2) (n + 1) (set d n u)
      ascii_more = plain_more ascii refl (sym (size_1 u l)) (put_1 u d n l)
