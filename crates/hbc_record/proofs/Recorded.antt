-- One law for each exit of a function, and for each loop a record with its laws: first, on, done.
use Rattle.std.proofs.Common.{◌≡◌, ℕ, ◌+◌, ◌/◌, ◌%◌, ◌^◌, ◌≤◌, Bool, true, false, cond, not, ◌&&◌, eqb, List, length, get_or, take, set, sym, refl, ap, ◌∙◌, add-one, length-set, take_all, MutBor}
use mir.Val.{bool_byte}
use Rattle.hbc_rows.specs.Rows.{filled}
use Rattle.hbc_io.specs.Outcome.{got, refused, valued, cursor_at}
use Rattle.hbc_io.specs.Plain.{span_of, word_at}
use Rattle.hbc_io.specs.declared.Cursor.{Cursor}
use Rattle.hbc_io.specs.declared.Refusal.{Refusal}
use Rattle.hbc_io.specs.declared.Span.{Span}
use Rattle.hbc_io_leb.specs.Leb.{leb_bytes}
use Rattle.hbc_io_leb.specs.Answers.{uleb_of}
use Rattle.hbc_io_leb.specs.declared.Uleb.{Uleb}
use Rattle.hbc_io_strings.specs.Strings.{prefixed}
use Rattle.hbc_record.specs.Records.{span_at, past_at, place_of, numbered, listed_at, after, nth, low_of, asked_of, judged, is_listed, judged_on, judged_to}
use Rattle.hbc_record.specs.Records.{are_listed, same_to, same_bytes, IsFront, IsGiven, words_of, tally, counted_on}
use Rattle.hbc_record.specs.declared.Number.{Number}
use Rattle.hbc_record.specs.declared.Judged.{Judged}
use Rattle.hbc_record.specs.declared.Tally.{Tally}

-- ---- fields and numbers

module _ (s : List ℕ) (at : ℕ) where
  pub span_got : {p : Span} {n : Cursor} → prefixed s (cursor_at at) ≡ got p n → p ≡ span_at s at
  unfolding span_at
  span_got e = rw e

  pub span_refused : {r : Refusal} {n : Cursor} → prefixed s (cursor_at at) ≡ refused r n → span_of 0 0 ≡ span_at s at
  unfolding span_at
  span_refused e = rw e

  pub past_got : {p : Span} {n : Cursor} → prefixed s (cursor_at at) ≡ got p n → n.at ≡ past_at s at
  unfolding past_at
  past_got e = rw e

  pub past_refused : {r : Refusal} {n : Cursor} → prefixed s (cursor_at at) ≡ refused r n → length s ≡ past_at s at
  unfolding past_at
  past_refused e = rw e

  pub number_got : (f : ℕ) {u : Uleb} {n : Cursor} → valued uleb_of (leb_bytes s (cursor_at at)) ≡ got u n → numbered u.value n.at ≡ listed_at s at f
  unfolding listed_at
  number_got f e = rw e

  pub number_refused : (f : ℕ) {r : Refusal} {n : Cursor} → valued uleb_of (leb_bytes s (cursor_at at)) ≡ refused r n → numbered f at ≡ listed_at s at f
  unfolding listed_at
  number_refused f e = rw e

pub record Placed (s : List ℕ) (i at : ℕ) : Type 0 where
  pub is : at ≡ place_of s i

pub placed_first : (s : List ℕ) → Placed s 0 0
unfolding place_of
placed_first s = record { is = refl }

pub placed_on : {s : List ℕ} {i at next : ℕ} → Placed s i at → next ≡ past_at s at → Placed s (i + 1) next
unfolding place_of
placed_on h e = record { is = rw (add-one, e, h.is) }

pub placed_done : {s : List ℕ} {i k at : ℕ} → i ≡ k → Placed s i at → at ≡ place_of s k
placed_done d h = rw (← d) h.is

-- ---- comparisons

pub judged_is : (may : Bool) (l : List ℕ) (f : ℕ) (j : Judged) (came : ℕ) {n : Number} {b c : Bool} → n ≡ listed_at l j.next f
    → c ≡ is_listed may f j.next n came → b ≡ (j.same && c) → judged b n.next ≡ judged_on may l f j came
unfolding judged_on
judged_is may l f j came e g h = rw (h, g, e)

pub record Listed (may : Bool) (l : List ℕ) (f : ℕ) (t : List ℕ) (i : ℕ) (j : Judged) : Type 0 where
  pub is : j ≡ judged_to may l f t i

pub listed_first : (may : Bool) (l : List ℕ) (f : ℕ) (t : List ℕ) → Listed may l f t 0 (judged true 0)
unfolding judged_to
listed_first may l f t = record { is = refl }

pub listed_on : {may : Bool} {l : List ℕ} {f : ℕ} {t : List ℕ} {i v : ℕ} {j k : Judged} → Listed may l f t i j → v ≡ get_or t i 0 → k ≡ judged_on may l f j v
    → Listed may l f t (i + 1) k
unfolding judged_to
listed_on h g k = record { is = rw (add-one, k, g, h.is) }

pub listed_done : {may : Bool} {l : List ℕ} {f : ℕ} {t : List ℕ} {i : ℕ} {j : Judged} {b : Bool} → i ≡ length t → Listed may l f t i j
    → b ≡ (j.same && eqb j.next (length l)) → b ≡ are_listed may l f t
unfolding are_listed
listed_done d h e = rw (e, h.is, d)

-- ---- bytes

pub record Same (a b : List ℕ) (i : ℕ) (r : Bool) : Type 0 where
  pub is : r ≡ same_to a b i

pub same_first : (a b : List ℕ) → Same a b 0 (eqb (length a) (length b))
unfolding same_to
same_first a b = record { is = refl }

pub same_on : {a b : List ℕ} {i x y : ℕ} {r q : Bool} → Same a b i r → x ≡ word_at 1 a i → y ≡ word_at 1 b i → q ≡ (r && eqb x y) → Same a b (i + 1) q
unfolding same_to
same_on h e f g = record { is = rw (add-one, g, e, f, h.is) }

pub same_done : {a b : List ℕ} {i : ℕ} {r : Bool} → i ≡ length a → Same a b i r → r ≡ same_bytes a b
unfolding same_bytes
same_done d h = rw (← d) h.is

-- ---- what is asked

module _ (l : List ℕ) {n₀ n₁ n₂ n₃ n₄ n₅ n₆ n₇ n₈ : Number} where
  pub asked_is : n₀ ≡ listed_at l 0 0 → n₁ ≡ after l n₀ → n₂ ≡ after l n₁ → n₃ ≡ after l n₂ → n₄ ≡ after l n₃ → n₅ ≡ after l n₄ → n₆ ≡ after l n₅
      → n₇ ≡ after l n₆ → n₈ ≡ after l n₇ → {p q r s : ℕ} → p ≡ low_of n₅.value → q ≡ low_of n₆.value → r ≡ low_of n₇.value → s ≡ low_of n₈.value
      → record { call = n₀.value; a = n₁.value; b = n₂.value; c = n₃.value; d = n₄.value; p = p; q = q; r = r; s = s } ≡ asked_of l
  unfolding asked_of nth
  asked_is e₀ e₁ e₂ e₃ e₄ e₅ e₆ e₇ e₈ fp fq fr fs = rw (fp, fq, fr, fs, e₈, e₇, e₆, e₅, e₄, e₃, e₂, e₁, e₀)

-- ---- what a call is lent and given

pub record Put (w t₀ : List ℕ) (i : ℕ) (t : List ℕ) : Type 0 where
  pub is : t ≡ filled (words_of w) i t₀
  pub size : length t ≡ length t₀

pub put_first : (w t : List ℕ) → Put w t 0 t
unfolding filled
put_first w t = record { is = refl; size = refl }

pub put_on : {w t₀ t : List ℕ} {i v : ℕ} → Put w t₀ i t → v ≡ words_of w i → Put w t₀ (i + 1) (set t i v)
unfolding filled
put_on h e = record { is = rw (add-one, e, h.is); size = simp length-set h.size }

pub put_done : {w t₀ t : List ℕ} {i : ℕ} → i ≡ length t₀ → Put w t₀ i t → t ≡ filled (words_of w) (length t₀) t₀
put_done d h = rw (← d) h.is

pub front_all : (t : MutBor (List ℕ)) (k : ℕ) → length t.now ≤ k → IsFront t k t
front_all t k l = record { words = sym (take_all k t.now l); place = refl }

pub given_is : {s w : List ℕ} {t u r : MutBor (List ℕ)} → w ≡ s → u.now ≡ filled (words_of w) (length t.now) t.now → u.ref_ptr ≡ t.ref_ptr
    → IsFront u (length w / 4) r → IsGiven s t r
given_is {w = w} e f p h = record { words = rw (← e) (h.words ∙ ap (take (length w / 4)) f); place = h.place ∙ p }

-- ---- counts

pub differs_is : (same : Bool) → bool_byte (not same) ≡ cond same 0 1
differs_is true = refl
differs_is false = refl

pub counted_is : (t : Tally) (same : Bool) {a b x : ℕ} → a ≡ (t.all + 1) % 2 ^ 64 → b ≡ (t.bad + x) % 2 ^ 64 → x ≡ cond same 0 1
    → tally a b ≡ counted_on t same
unfolding counted_on
counted_is t same e f g = rw (e, f, g)
