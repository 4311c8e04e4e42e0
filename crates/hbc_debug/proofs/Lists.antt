-- Counting and writing the lists of parts that a file holds, where there is room: nothing is refused.
use Prim.Native.Nat.{ℕ, ◌+◌, ◌*◌, ◌≤◌}
use mathlib.Core.Path.{◌≡◌, refl, ap, sym, ◌∙◌}
use mathlib.Core.List.{List, [], ◌∷◌}
use native.Mathlib.Omega.{arith}
use lib.ListN.{length, length-append}
use lib.Seq.{sets}
use Rattle.std.specs.Prelude.{Result, Ok, Err}
use Rattle.hbc_io.specs.Outcome.{limit}
use Rattle.hbc_io.specs.Answers.{answered}
use Rattle.hbc_io.specs.Answer.{Answer, gives, refuses}
use Rattle.hbc_io.specs.Lends.{written}
use Rattle.hbc_io.specs.declared.Refusal.{Refusal}
use Rattle.hbc_io.proofs.Exits.{words, not_given}
use Rattle.hbc_io_leb.specs.Numbers.{exact}
use Rattle.hbc_rows.specs.Rows.{rows}
use Rattle.hbc_rows.specs.Until.{flat, flat_from}
use Rattle.hbc_debug_parts.specs.declared.InFile.{InFile}
use Rattle.hbc_debug_parts.specs.Lists.{in_limit, with_room, in_front}
use Rattle.hbc_debug_parts.specs.Along.{every}
use Rattle.hbc_debug_parts.proofs.Fronts.{limit_in, room_in, front_all}
use Rattle.hbc_debug_strings.specs.Strings.{strings_of, string_width, string_row, string_words, string_numbers, count_strings, WriteStrings}
use Rattle.hbc_debug_strings.specs.declared.StringCount.{StringCount}
use Rattle.hbc_debug_scopes.specs.Scopes.{Scope, scopes_of, scope_width, scope_row, scope_words, name_count, name_row, name_words, names_in, scope_numbers, count_scopes, WriteScopes}
use Rattle.hbc_debug_scopes.specs.Private.{ScopesAre, RowsAre}
use Rattle.hbc_debug_scopes.specs.declared.ScopeCounts.{ScopeCounts}
use Rattle.hbc_debug_scopes.proofs.Fronts.{length_cells, row_size}
use Rattle.hbc_debug_rising.specs.Rising.{callee_row}
use Rattle.hbc_debug_callees.specs.Callees.{callees_of, callee_width, callee_words, callee_numbers, count_callees, WriteCallees}
use Rattle.hbc_debug_callees.specs.declared.CalleeCount.{CalleeCount}

given_one : {A : Type 0} {a b : A} → gives a ≡ gives b → a ≡ b
given_one e = cc

-- ---- how many words rows have

flat_words : {A : Type 0} (row : A → List ℕ) (w : ℕ) → ((x : A) → length (row x) ≡ w) → (xs : List A) → length (flat row xs) ≡ length xs * w
flat_words row w h [] = omega arith
flat_words row w h (x ∷ xs) = simp (length-append, h x, flat_words row w h xs) (omega arith)

from_words : {A : Type 0} (row : ℕ → A → List ℕ) (weight : A → ℕ) (w : ℕ) → ((n : ℕ) (x : A) → length (row n x) ≡ w) → (first : ℕ) (xs : List A)
    → length (flat_from row weight first xs) ≡ length xs * w
from_words row weight w h first [] = omega arith
from_words row weight w h first (x ∷ xs) = simp (length-append, h first x, from_words row weight w h (first + weight x) xs) (omega arith)

names_words : (m : ℕ) (xs : List Scope) → length (name_words m xs) ≡ names_in xs
unfolding name_row name_count
names_words m [] = refl
names_words m (x ∷ xs) =
    length-append (name_row m x) (name_words m xs) ∙ ap (λ (n : ℕ). n + length (name_words m xs)) (length_cells m x.names) ∙ ap (λ (n : ℕ). length x.names + n) (names_words m xs)

-- ---- counting

module _ {A : Type 0} (a : A) (end : ℕ) (h : end ≤ limit) where
  counted_is : {k : A} → gives k ≡ in_limit end (gives a) → k ≡ a
  counted_is e = given_one (e ∙ sym (limit_in (gives a) end h))

  counted_not : {x : Refusal} → refuses x ≡ in_limit end (gives a) → ⊥
  counted_not e = not_given (e ∙ sym (limit_in (gives a) end h))

module _ (s : List ℕ) (h : length s ≤ limit) where
  pub strings_counted : {r : Result StringCount Refusal} {k : StringCount} → answered r ≡ count_strings s → r ≡ Ok k
      → (k.strings ≡ length (strings_of s)) × (k.exact ≡ every exact (string_numbers s))
  unfolding count_strings
  strings_counted e f =
      let q = counted_is (record { strings = length (strings_of s); exact = every exact (string_numbers s) }) (length s) h (sym (ap answered f) ∙ e) in
      (ap (λ (n : StringCount). n.strings) q, ap (λ (n : StringCount). n.exact) q)

  pub strings_not : {r : Result StringCount Refusal} {x : Refusal} → answered r ≡ count_strings s → r ≡ Err x → ⊥
  unfolding count_strings
  strings_not e f = counted_not _ (length s) h (sym (ap answered f) ∙ e)

  pub scopes_counted : {r : Result ScopeCounts Refusal} {k : ScopeCounts} → answered r ≡ count_scopes s → r ≡ Ok k
      → ScopesAre s k.scopes k.names × (k.exact ≡ every exact (scope_numbers s))
  unfolding count_scopes
  scopes_counted e f =
      let q = counted_is (record { scopes = length (scopes_of s); names = names_in (scopes_of s); exact = every exact (scope_numbers s) }) (length s) h (sym (ap answered f) ∙ e) in
      (record { scopes_are = ap (λ (n : ScopeCounts). n.scopes) q; names_are = ap (λ (n : ScopeCounts). n.names) q }, ap (λ (n : ScopeCounts). n.exact) q)

  pub scopes_not : {r : Result ScopeCounts Refusal} {x : Refusal} → answered r ≡ count_scopes s → r ≡ Err x → ⊥
  unfolding count_scopes
  scopes_not e f = counted_not _ (length s) h (sym (ap answered f) ∙ e)

  module _ (n : ℕ) where
    pub callees_counted : {r : Result CalleeCount Refusal} {k : CalleeCount} → answered r ≡ count_callees n s → r ≡ Ok k
        → (k.callees ≡ length (callees_of n s)) × (k.exact ≡ every exact (callee_numbers n s))
    unfolding count_callees
    callees_counted e f =
        let q = counted_is (record { callees = length (callees_of n s); exact = every exact (callee_numbers n s) }) (length s) h (sym (ap answered f) ∙ e) in
        (ap (λ (m : CalleeCount). m.callees) q, ap (λ (m : CalleeCount). m.exact) q)

    pub callees_not : {r : Result CalleeCount Refusal} {x : Refusal} → answered r ≡ count_callees n s → r ≡ Err x → ⊥
    unfolding count_callees
    callees_not e f = counted_not _ (length s) h (sym (ap answered f) ∙ e)

-- ---- writing

-- past the tests the new words are there
put_by : {W : Type 0} (new before : W) {after : W} {o : Answer (Unit {0})} → after ≡ written o new before → gives tt ≡ o → after ≡ new
put_by new before e f = e ∙ ap (λ (a : Answer (Unit {0})). written a new before) (sym f)

room : (lent count end : ℕ) → count ≤ lent → end ≤ limit
    → ◌≡◌ {A = Answer (Unit {0})} (gives tt) (in_limit end (with_room lent count (gives tt)))
room lent count end h k = room_in (gives tt) lent count h ∙ limit_in (with_room lent count (gives tt)) end k

pub strings_put : (s : List ℕ) (base : InFile) (count : ℕ) (t : List ℕ) {r : Result (Unit {0}) Refusal} {after : List ℕ} → base.0 + length s ≤ limit → count ≡ length (strings_of s)
    → count ≤ rows string_width t → WriteStrings s base count t r after → after ≡ sets t 0 (string_words base (strings_of s))
strings_put s base count t h k l v =
    let n : length (string_words base (strings_of s)) ≡ count * string_width = flat_words (string_row base) string_width (λ p. refl) (strings_of s) ∙ omega arith in
    put_by _ t (words v) (room (rows string_width t) count (base.0 + length s) l h) ∙ front_all (count * string_width) t (string_words base (strings_of s)) n (omega arith)

pub callees_put : (s : List ℕ) (strings count : ℕ) (t : List ℕ) {r : Result (Unit {0}) Refusal} {after : List ℕ} → length s ≤ limit → count ≡ length (callees_of strings s)
    → count ≤ rows callee_width t → WriteCallees s strings count t r after → after ≡ sets t 0 (callee_words (callees_of strings s))
callees_put s strings count t h k l v =
    let n : length (callee_words (callees_of strings s)) ≡ count * callee_width = flat_words callee_row callee_width (λ x. refl) (callees_of strings s) ∙ omega arith in
    put_by _ t (words v) (room (rows callee_width t) count (length s) l h) ∙ front_all (count * callee_width) t (callee_words (callees_of strings s)) n (omega arith)

pub scopes_put : (s : List ℕ) (strings : ℕ) (counts : ScopeCounts) (t names : List ℕ) {r : Result (Unit {0}) Refusal} {t' names' : List ℕ} → length s ≤ limit
    → ScopesAre s counts.scopes counts.names → counts.scopes ≤ rows scope_width t → counts.names ≤ length names
    → WriteScopes s strings counts (t, names) r (t', names') → RowsAre s strings t names t' names'
scopes_put s strings counts t names {t' = t'} {names'} h k l m v =
    let xs = scopes_of s in
    let a : length (scope_words xs) ≡ counts.scopes * scope_width = from_words scope_row name_count scope_width row_size 0 xs ∙ ap (λ (n : ℕ). n * scope_width) (sym k.scopes_are) in
    let b : length (name_words strings xs) ≡ counts.names = names_words strings xs ∙ sym k.names_are in
    let f : counts.scopes * scope_width ≤ length t = omega arith in
    let o = room_in (gives tt) (length names) counts.names m ∙ room_in _ (rows scope_width t) counts.scopes l ∙ limit_in _ (length s) h in
    let w : ◌≡◌ {A = List ℕ × List ℕ} (t', names') (in_front (counts.scopes * scope_width) (scope_words xs) t, in_front counts.names (name_words strings xs) names) = put_by _ (t, names) (words v) o in
    record {
      rows_are = ap (λ (q : List ℕ × List ℕ). q.0) w ∙ front_all (counts.scopes * scope_width) t (scope_words xs) a f;
      names_are = ap (λ (q : List ℕ × List ℕ). q.1) w ∙ front_all counts.names names (name_words strings xs) b m;
    }
