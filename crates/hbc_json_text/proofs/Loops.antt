-- What the loops know: of what is written for a string, so much is counted, or stands, and the rest is left.
use Prim.Native.Nat.{ℕ, ◌+◌, ◌*◌, ◌-◌, ◌/◌, ◌%◌, ◌≤◌, ◌<◌}
use mathlib.Core.Path.{◌≡◌, refl, sym, ap, ◌∙◌}
use mathlib.Core.List.{List, [], ◌++◌, append-nil}
use mathlib.Core.Bool.{Bool, true, false}
use native.Mathlib.Nat.{add-zero}
use native.Mathlib.Omega.{arith}
use lib.ListN.{length, get_or, length-append}
use lib.Dec.{leb}
use lib.Seq.{sets}
use borrow.Author.Tests.{le-leb, leb-true, leb-false}
use Rattle.std.specs.Prelude.{Ok}
use Rattle.hbc_io.specs.Outcome.{limit}
use Rattle.hbc_text_forms.specs.Text.{over, PutText}
use Rattle.hbc_text_forms.proofs.Exits.{is_put}
use Rattle.hbc_text_forms.proofs.Wide.{odd}
use Rattle.hbc_text_forms.proofs.Counting.{Counting, count_none, count_all, count_more, count_long}
use Rattle.hbc_text_forms.proofs.Writing.{Writing, write_first, write_all, write_end, write_length, write_room, write_more}
use Rattle.hbc_json_forms.specs.Json.{escape, escaped, text_in}
use Rattle.hbc_json_forms.proofs.Split.{utf8_most}
use Rattle.hbc_json_forms.proofs.Wide.{utf16_most}
use Rattle.hbc_json_text.specs.Private.{step_of, Even, rest, piece, Next}

-- ---- places

rest_first : (wide : Bool) (s : List ℕ) → rest wide s 0 ≡ escaped (text_in wide s)
unfolding rest
rest_first wide s = refl

-- the next place, of which there is none past the end
pub record Place (wide : Bool) (s : List ℕ) (at e : ℕ) : Type 0 where
  pub next : Next wide s at e
  pub whole : Even wide (length s)

module _ (wide : Bool) (s : List ℕ) (at e : ℕ) (p : Place wide s at e) where
  here_length : e < length s → length (rest wide s at) ≡ length (piece wide s at e) + (length (escape (get_or s e 0)) + length (rest wide s (e + step_of wide)))
  here_length h =
      ap length (p.next.more h).same ∙ length-append (piece wide s at e) (escape (get_or s e 0) ++ rest wide s (e + step_of wide))
      ∙ ap (λ (k : ℕ). length (piece wide s at e) + k) (length-append (escape (get_or s e 0)) (rest wide s (e + step_of wide)))

  last_length : length s ≤ e → length (rest wide s at) ≡ length (piece wide s at e)
  last_length h = ap length (p.next.last h)

-- half a unit: there is no text
pub odd_none : (wide : Bool) (s : List ℕ) → (Even wide (length s) → ⊥) → escaped (text_in wide s) ≡ []
unfolding escaped
odd_none true s n = ap escaped (odd s (half n))
  where
    half : (length s % 2 ≡ 0 → ⊥) → length s % 2 ≡ 1
    half x = omega arith
odd_none false s n = absurd (n (omega arith))

pub odd_put : (wide : Bool) (s before : List ℕ) → (Even wide (length s) → ⊥) → length s ≤ limit
    → PutText (escaped (text_in wide s)) s before (Ok 0) before
unfolding over
odd_put wide s before n l = rw (odd_none wide s n) (is_put [] s before l (omega arith) refl refl)

-- ---- counted

pub record Measuring (wide : Bool) (s : List ℕ) (room at e n : ℕ) : Type 0 where
  pub place : Place wide s at e
  pub counting : Counting (length (escaped (text_in wide s))) room n (length (rest wide s at))

pub measure_first : (wide : Bool) (s : List ℕ) (room e : ℕ) → Even wide (length s) → Next wide s 0 e → Measuring wide s room 0 e 0
measure_first wide s room e w x =
    record {
      place = record { next = x; whole = w };
      counting = rw (rest_first wide s) (count_none (length (escaped (text_in wide s))) room);
    }

module _ (wide : Bool) (s : List ℕ) (room at e n : ℕ) (m : Measuring wide s room at e n) where
  -- the piece does not fit
  pub long_piece_more : e < length s → room - n < length (piece wide s at e) → room < length (escaped (text_in wide s))
  long_piece_more h l = count_long m.counting _ _ (here_length wide s at e m.place h) l

  pub long_last : length s ≤ e → room - n < length (piece wide s at e) → room < length (escaped (text_in wide s))
  long_last h l = count_long m.counting (length (piece wide s at e)) 0 (last_length wide s at e m.place h ∙ sym (add-zero _)) l

  pub measure_last : length s ≤ e → (length (piece wide s at e) ≤ room - n) → {k : ℕ} → k ≡ length (piece wide s at e)
      → (n + k ≡ length (escaped (text_in wide s))) × (length (escaped (text_in wide s)) ≤ room)
  measure_last h l q =
      let c = count_more m.counting (length (piece wide s at e)) 0 (last_length wide s at e m.place h ∙ sym (add-zero _)) l in
      rw q (count_all c refl)

  -- it does, and then the escape
  module _ (h : e < length s) (l : length (piece wide s at e) ≤ room - n) {k : ℕ} (q : k ≡ length (piece wide s at e)) where
    behind_piece : Counting (length (escaped (text_in wide s))) room (n + k) (length (escape (get_or s e 0)) + length (rest wide s (e + step_of wide)))
    behind_piece = rw q (count_more m.counting _ _ (here_length wide s at e m.place h) l)

    pub piece_fits : n + k ≤ room
    piece_fits = behind_piece.fits

    module _ {j : ℕ} (z : j ≡ length (escape (get_or s e 0))) where
      pub long_escape : room - (n + k) < j → room < length (escaped (text_in wide s))
      long_escape o = count_long behind_piece _ _ refl (rw z at o)

      pub measure_more : {f : ℕ} {step : ℕ} → step ≡ step_of wide → j ≤ room - (n + k) → Next wide s (e + step) f → Measuring wide s room (e + step) f (n + k + j)
      measure_more t o x =
          record {
            place = record { next = x; whole = m.place.whole };
            counting = rw (t, z) (count_more behind_piece _ _ refl (rw z at o));
          }

-- ---- written

pub record Putting (wide : Bool) (s before : List ℕ) (at e n : ℕ) (d : List ℕ) : Type 0 where
  pub place : Place wide s at e
  pub put : Writing (escaped (text_in wide s)) before n (rest wide s at) d

pub put_first : (wide : Bool) (s before : List ℕ) (e : ℕ) → Even wide (length s) → length (escaped (text_in wide s)) ≤ length before → Next wide s 0 e → Putting wide s before 0 e 0 before
put_first wide s before e w r x =
    record {
      place = record { next = x; whole = w };
      put = rw (rest_first wide s) (write_first (escaped (text_in wide s)) before r);
    }

module _ (wide : Bool) (s before : List ℕ) (at e n : ℕ) {d : List ℕ} (m : Putting wide s before at e n d) where
  here : e < length s → Writing (escaped (text_in wide s)) before n (piece wide s at e ++ (escape (get_or s e 0) ++ rest wide s (e + step_of wide))) d
  here h = rw (m.place.next.more h).same at m.put

  last : length s ≤ e → Writing (escaped (text_in wide s)) before n (piece wide s at e ++ []) d
  last h = rw (m.place.next.last h, ← append-nil (piece wide s at e)) at m.put

  -- what is lent keeps its length
  pub put_length : length d ≡ length before
  put_length = write_length _ _ _ m.put

  pub room_here : e < length s → n + length (piece wide s at e) ≤ length d
  room_here h = omega (arith, write_room _ _ _ (here h), length-append (piece wide s at e) (escape (get_or s e 0) ++ rest wide s (e + step_of wide)))

  pub put_last : length s ≤ e → {k : ℕ} {x : List ℕ} → k ≡ length (piece wide s at e) → x ≡ sets d n (piece wide s at e)
      → (n + k ≡ length (escaped (text_in wide s))) × (x ≡ over (escaped (text_in wide s)) before)
  put_last h q a =
      let w : Writing (escaped (text_in wide s)) before (n + length (piece wide s at e)) [] (sets d n (piece wide s at e)) = write_more _ _ _ (piece wide s at e) (last h) in
      (rw q (write_all _ _ _ w), a ∙ write_end _ _ _ w)

  module _ (h : e < length s) {k : ℕ} {x : List ℕ} (q : k ≡ length (piece wide s at e)) (a : x ≡ sets d n (piece wide s at e)) where
    behind : Writing (escaped (text_in wide s)) before (n + k) (escape (get_or s e 0) ++ rest wide s (e + step_of wide)) x
    behind = rw (q, a) (write_more _ _ _ (piece wide s at e) (here h))

    pub escape_room : n + k + length (escape (get_or s e 0)) ≤ length x
    escape_room = omega (arith, write_room _ _ _ behind, length-append (escape (get_or s e 0)) (rest wide s (e + step_of wide)))

    pub behind_length : length x ≡ length before
    behind_length = write_length _ _ _ behind

    pub put_more : {f step j : ℕ} {y : List ℕ} → step ≡ step_of wide → j ≡ length (escape (get_or s e 0)) → y ≡ sets x (n + k) (escape (get_or s e 0))
        → Next wide s (e + step) f → Putting wide s before (e + step) f (n + k + j) y
    put_more t z b c =
        record {
          place = record { next = c; whole = m.place.whole };
          put = rw (t, z, b) (write_more _ _ _ (escape (get_or s e 0)) behind);
        }

-- ---- the room

pub most : (wide : Bool) (s : List ℕ) → length (escaped (text_in wide s)) ≤ 6 * length s
most true s = utf16_most s
most false s = utf8_most s

pub room_for_any : (wide : Bool) (s : List ℕ) (room : ℕ) → length s ≤ room / 6 → true ≡ leb (length (escaped (text_in wide s))) room
room_for_any wide s room h = sym (le-leb (length (escaped (text_in wide s))) room (omega (arith, most wide s)))

pub room_is : (wide : Bool) (s : List ℕ) (room : ℕ) {w : Bool} → w ≡ leb (length (escaped (text_in wide s))) room → w ≡ true → length (escaped (text_in wide s)) ≤ room
room_is wide s room e h = leb-true _ _ (sym e ∙ h)

pub room_less : (wide : Bool) (s : List ℕ) (room : ℕ) {w : Bool} → w ≡ leb (length (escaped (text_in wide s))) room → w ≡ false → room < length (escaped (text_in wide s))
room_less wide s room e h = leb-false _ _ (sym e ∙ h)
