-- Bytes up to the next of what is escaped: a piece that is text alone, and what follows.
use Prim.Native.Nat.{ℕ, zero, suc, ◌+◌, ◌*◌, ◌-◌, ◌%◌, ◌≤◌, ◌<◌}
use mathlib.Core.Path.{◌≡◌, sym, ap, ◌∙◌}
use mathlib.Core.List.{List, [], ◌∷◌, ◌++◌}
use mathlib.Core.Bool.{true, false}
use native.Mathlib.Nat.{add-zero}
use native.Mathlib.Numerals.{add-one}
use native.Mathlib.Omega.{arith}
use lib.ListN.{length, take, drop, get_or, length-drop, take-append-drop}
use lib.Seq.{drop-cons, drop-drop, take-add, take-length, length-take-le}
use Rattle.hbc_text_forms.specs.Utf8.{utf8_text}
use Rattle.hbc_text_forms.specs.Utf16.{units, utf16_text}
use Rattle.hbc_json_forms.specs.Json.{is_escaped, escape, escaped}
use Rattle.hbc_json_forms.proofs.Laws as clear
use Rattle.hbc_json_forms.proofs.Laws.{Clear, clear_append, escaped_append, low_escaped}
use Rattle.hbc_json_forms.proofs.Split.{utf8_split, utf8_clear}
use Rattle.hbc_json_forms.proofs.Wide.{units_append, utf16_split, utf16_clear}
use Rattle.hbc_json_text.specs.Private.{rest, piece, AllClear, Passed, Next}

-- ---- the bytes from a place on, cut where another begins

module _ (s : List ℕ) (at e : ℕ) (f : at ≤ e) where
  cut : drop at s ≡ take (e - at) (drop at s) ++ drop e s
  cut =
      let q : at + (e - at) ≡ e = omega arith in
      sym (take-append-drop (e - at) (drop at s)) ∙ rw (drop-drop (e - at) at s, q)

  all_of : e ≡ length s → take (e - at) (drop at s) ≡ drop at s
  all_of h =
      let q : e - at ≡ length (drop at s) = rw (length-drop at s, h) in
      rw q (take-length (drop at s))

  part_length : e ≤ length s → length (take (e - at) (drop at s)) ≡ e - at
  part_length h = length-take-le (e - at) (drop at s) (rw (length-drop at s) (omega arith))

-- ---- UTF-8

clear_take : (s : List ℕ) (at k : ℕ) → at + k ≤ length s → AllClear s at k → Clear (take k (drop at s))
clear_take s at zero h a = clear.none
clear_take s at (suc k) h a =
    rw (drop-cons s at 0 (omega arith))
    (clear.more (rw (add-zero at) at (a 0 (omega arith)))
    (clear_take s (suc at) k (omega arith) (λ j l. let q : at + suc j ≡ suc at + j = omega arith in rw q at (a (suc j) (omega arith)))))

utf8_piece : (a c : List ℕ) (b : ℕ) → Clear a → b < 0x80 → escaped (utf8_text (a ++ b ∷ c)) ≡ utf8_text a ++ (escape b ++ escaped (utf8_text c))
unfolding escaped
utf8_piece a c b k h = ap escaped (utf8_split a c b h) ∙ escaped_append (utf8_text a) (b ∷ utf8_text c) ∙ rw (utf8_clear k)

module _ (s : List ℕ) (at e : ℕ) (p : Passed s at e) where
  part_clear : Clear (take (e - at) (drop at s))
  part_clear = clear_take s at (e - at) (omega (arith, p.from, p.inside)) p.clear

  pub next_end : length s ≤ e → Next false s at e
  unfolding rest piece
  next_end h =
      let m : e ≡ length s = omega (arith, p.inside) in
      record {
        from = p.from;
        inside = p.inside;
        last = λ l. ap (λ (x : List ℕ). escaped (utf8_text x)) (sym (all_of s at e p.from m)) ∙ utf8_clear part_clear;
        more = λ l. absurd (omega arith);
      }

  pub next_here : e < length s → is_escaped (get_or s e 0) ≡ true → Next false s at e
  unfolding rest piece
  next_here h c =
      let d : drop at s ≡ take (e - at) (drop at s) ++ get_or s e 0 ∷ drop (e + 1) s = cut s at e p.from ∙ rw (drop-cons s e 0 h, add-one e) in
      record {
        from = p.from;
        inside = p.inside;
        last = λ l. absurd (omega arith);
        more = λ l. record {
          room = omega arith;
          even = omega arith;
          same = ap (λ (x : List ℕ). escaped (utf8_text x)) d ∙ utf8_piece (take (e - at) (drop at s)) (drop (e + 1) s) (get_or s e 0) part_clear (low_escaped (get_or s e 0) c);
        };
      }

-- a byte below 0x80 by itself, escaped or not
pub next_alone : (s : List ℕ) (at : ℕ) → at < length s → get_or s at 0 < 0x80 → Next false s at at
unfolding rest piece
next_alone s at h l =
    let z : at - at ≡ 0 = omega arith in
    let d : drop at s ≡ get_or s at 0 ∷ drop (at + 1) s = drop-cons s at 0 h ∙ rw (add-one at) in
    record {
      from = omega arith;
      inside = omega arith;
      last = λ m. absurd (omega arith);
      more = λ m. record {
        room = omega arith;
        even = omega arith;
        same = ap (λ (x : List ℕ). escaped (utf8_text x)) d ∙ utf8_piece [] (drop (at + 1) s) (get_or s at 0) clear.none l ∙ rw z;
      };
    }

-- ---- UTF-16

utf16_piece : (a c : List ℕ) (u h : ℕ) → length a % 2 ≡ 0 → length c % 2 ≡ 0 → Clear (units a) → u + 256 * h < 0x80
    → escaped (utf16_text (a ++ u ∷ h ∷ c)) ≡ utf16_text a ++ (escape u ++ escaped (utf16_text c))
unfolding escaped
utf16_piece a c u h m n k l = ap escaped (utf16_split a c u h m n l) ∙ escaped_append (utf16_text a) (u ∷ utf16_text c) ∙ rw (utf16_clear a k)

-- no unit from a place to another is escaped
pub record UnitsPassed (s : List ℕ) (at e : ℕ) : Type 0 where
  pub from : at ≤ e
  pub inside : e ≤ length s
  pub starts : at % 2 ≡ 0
  pub ends : e % 2 ≡ 0
  pub whole : length s % 2 ≡ 0
  pub clear : Clear (units (take (e - at) (drop at s)))

pub units_none : (s : List ℕ) (at : ℕ) → at ≤ length s → at % 2 ≡ 0 → length s % 2 ≡ 0 → UnitsPassed s at at
unfolding units
units_none s at h a w =
    let z : at - at ≡ 0 = omega arith in
    record { from = omega arith; inside = h; starts = a; ends = a; whole = w; clear = rw z clear.none }

module _ (s : List ℕ) (at e : ℕ) (p : UnitsPassed s at e) where
  pub two_left : e < length s → e + 2 ≤ length s
  two_left h = omega (arith, p.ends, p.whole)

  two_at : e < length s → drop e s ≡ get_or s e 0 ∷ get_or s (e + 1) 0 ∷ drop (e + 2) s
  two_at h =
      let q : suc (e + 1) ≡ e + 2 = omega arith in
      drop-cons s e 0 h ∙ rw (← add-one e, drop-cons s (e + 1) 0 (omega (arith, two_left h)), q)

  pub units_more : e < length s → is_escaped (get_or s e 0 + 256 * get_or s (e + 1) 0) ≡ false → UnitsPassed s at (e + 2)
  unfolding units
  units_more h c =
      let a : List ℕ = take (e - at) (drop at s) in
      let q : at + (e - at) ≡ e = omega (arith, p.from) in
      let k : e + 2 - at ≡ (e - at) + 2 = omega (arith, p.from) in
      let t : take (e + 2 - at) (drop at s) ≡ a ++ (get_or s e 0 ∷ get_or s (e + 1) 0 ∷ []) =
      rw k (take-add (e - at) 2 (drop at s) ∙ rw (drop-drop (e - at) at s, q, two_at h)) in
      let m : length a % 2 ≡ 0 = rw (part_length s at e p.from p.inside) (omega (arith, p.from, p.starts, p.ends)) in
      record {
        from = omega (arith, p.from);
        inside = two_left h;
        starts = p.starts;
        ends = omega (arith, p.ends);
        whole = p.whole;
        clear = rw (t, units_append a (get_or s e 0 ∷ get_or s (e + 1) 0 ∷ []) m) (clear_append p.clear (clear.more c clear.none));
      }

  pub units_end : length s ≤ e → Next true s at e
  unfolding rest piece
  units_end h =
      let m : e ≡ length s = omega (arith, p.inside) in
      record {
        from = p.from;
        inside = p.inside;
        last = λ l. ap (λ (x : List ℕ). escaped (utf16_text x)) (sym (all_of s at e p.from m)) ∙ utf16_clear (take (e - at) (drop at s)) p.clear;
        more = λ l. absurd (omega arith);
      }

  pub units_here : e < length s → is_escaped (get_or s e 0 + 256 * get_or s (e + 1) 0) ≡ true → Next true s at e
  unfolding rest piece
  units_here h c =
      let d : drop at s ≡ take (e - at) (drop at s) ++ get_or s e 0 ∷ get_or s (e + 1) 0 ∷ drop (e + 2) s = cut s at e p.from ∙ rw (two_at h) in
      let m : length (take (e - at) (drop at s)) % 2 ≡ 0 = rw (part_length s at e p.from p.inside) (omega (arith, p.from, p.starts, p.ends)) in
      let n : length (drop (e + 2) s) % 2 ≡ 0 = rw (length-drop (e + 2) s) (omega (arith, p.ends, p.whole, two_left h)) in
      record {
        from = p.from;
        inside = p.inside;
        last = λ l. absurd (omega arith);
        more = λ l. record {
          room = two_left h;
          even = omega (arith, p.ends);
          same = ap (λ (x : List ℕ). escaped (utf16_text x)) d
              ∙ utf16_piece (take (e - at) (drop at s)) (drop (e + 2) s) (get_or s e 0) (get_or s (e + 1) 0) m n p.clear (low_escaped (get_or s e 0 + 256 * get_or s (e + 1) 0) c);
        };
      }
