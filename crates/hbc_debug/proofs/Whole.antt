-- The two ends of the call on the bytes of the parts, each in the form of the promise.
use mathlib.Core.Path.{◌≡◌, refl, sym, ap, ◌∙◌}
use mathlib.Core.Bool.{Bool, true, false, cond, ◌&&◌}
use mathlib.Core.List.{List, ◌++◌}
use Prim.Native.Nat.{ℕ, ◌≤◌}
use borrow.Author.Tests.{leb-true}
use native.Mathlib.Omega.{arith}
use lib.ListN.{length}
use Rattle.std.specs.Prelude.{Ok, Err}
use lib.Seq.{sets}
use lib.Dec.{leb}
use Rattle.hbc_io.specs.Outcome.{refusal_at, cursor_at}
use Rattle.hbc_io.specs.Answer.{Answer, gives, refuses}
use Rattle.hbc_io.specs.declared.Refusal.{Refusal}
use Rattle.hbc_io.proofs.Exits.{refused, given, take, leave}
use Rattle.hbc_io_strings.specs.Strings.{prefixed}
use Rattle.hbc_io_leb.specs.Numbers.{exact}
use Rattle.hbc_rows.proofs.Untils.{until_most}
use Rattle.hbc_debug_parts.specs.Along.{every}
use Rattle.hbc_debug_parts.specs.declared.Marked.{Marked}
use Rattle.hbc_debug_parts.proofs.Along.{every_both}
use Rattle.hbc_debug_strings.specs.Strings.{strings_of, string_words, string_numbers}
use Rattle.hbc_debug_scopes.specs.Scopes.{scopes_of, name_words, scope_numbers}
use Rattle.hbc_debug_scopes.specs.Private.{ScopesAre, RowsAre}
use Rattle.hbc_debug_callees.specs.Callees.{callees_of, callee_words, callee_numbers}
use Rattle.hbc_debug.specs.Debug.{Tables, tables, Contents, string_count, counts_of, numbers_read, all_exact, room_in, fits, with_rows}
use Rattle.hbc_debug.specs.Private.{ReadParts}
use Rattle.hbc_debug.specs.declared.Counts.{Counts}

pub strings_most : (s : List ℕ) → length (strings_of s) ≤ length s
unfolding strings_of
strings_most s = until_most (prefixed s) (length s) (cursor_at 0)

no_truth : ◌≡◌ {A = Bool} false true → ⊥
no_truth e = let z : ◌≡◌ {A = ℕ} 0 1 = cc in omega arith

-- where all fit, each does
pub record AllFit (need room : Counts) : Type 0 where
  pub strings : need.strings ≤ room.strings
  pub scopes : need.scopes ≤ room.scopes
  pub names : need.names ≤ room.names
  pub callees : need.callees ≤ room.callees

pub all_fit : (need room : Counts) {ok : Bool} → ok ≡ fits need room → ok ≡ true → AllFit need room
unfolding fits
all_fit need room e f = by (leb need.strings room.strings) refl (leb need.scopes room.scopes) refl (leb need.names room.names) refl (sym e ∙ f)
  where
    by : (x : Bool) → leb need.strings room.strings ≡ x → (y : Bool) → leb need.scopes room.scopes ≡ y → (z : Bool) → leb need.names room.names ≡ z
        → cond x (cond y (cond z (leb need.callees room.callees) false) false) false ≡ true → AllFit need room
    by true a true b true c d = record { strings = leb-true _ _ a; scopes = leb-true _ _ b; names = leb-true _ _ c; callees = leb-true _ _ d }
    by true a true b false c d = absurd (no_truth d)
    by true a false b z c d = absurd (no_truth d)
    by false a y b z c d = absurd (no_truth d)

-- the mark of each part, in the order that they are listed in
pub marks_are : (b : Contents) {n : ℕ} {x y z : Bool} → n ≡ string_count b → x ≡ every exact (scope_numbers b.scopes) → y ≡ every exact (callee_numbers n b.callees)
    → z ≡ every exact (string_numbers b.strings) → x && (y && z) ≡ all_exact b
unfolding all_exact numbers_read
marks_are b {n} {x} {y} {z} en ex ey ez =
    let p = scope_numbers b.scopes in
    let q = callee_numbers (string_count b) b.callees in
    let r = string_numbers b.strings in
    let f : y ≡ every exact q = ey ∙ ap (λ (k : ℕ). every exact (callee_numbers k b.callees)) en in
    ap (λ (a : Bool). a && (y && z)) ex ∙ ap (λ (a : Bool). every exact p && (a && z)) f ∙ ap (λ (a : Bool). every exact p && (every exact q && a)) ez
    ∙ sym (every_both exact p (q ++ r) ∙ ap (λ (a : Bool). every exact p && a) (every_both exact q r))

module _ (b : Contents) (t : Tables) {n i j m : ℕ} {ok : Bool}
    (en : n ≡ string_count b) (es : ScopesAre b.scopes i j) (em : m ≡ length (callees_of n b.callees))
    (eo : ok ≡ fits (record { strings = n; scopes = i; names = j; callees = m }) (room_in t)) where
  counts_are : record { strings = n; scopes = i; names = j; callees = m } ≡ counts_of b
  unfolding counts_of
  counts_are =
      let p = es.scopes_are in
      let q = es.names_are in
      let c : m ≡ length (callees_of (string_count b) b.callees) = em ∙ ap (λ (x : ℕ). length (callees_of x b.callees)) en in
      cc

  ok_is : fits (counts_of b) (room_in t) ≡ ok
  ok_is = sym (eo ∙ ap (λ (k : Counts). fits k (room_in t)) counts_are)

  pub read_done : {strings scopes names callees : List ℕ} {e : Bool} → ok ≡ true
      → strings ≡ sets t.strings 0 (string_words b.base (strings_of b.strings)) → RowsAre b.scopes n t.scopes t.names scopes names
      → callees ≡ sets t.callees 0 (callee_words (callees_of n b.callees)) → e ≡ all_exact b
      → ReadParts b t (Ok (record { value = record { strings = n; scopes = i; names = j; callees = m }; exact = e })) (tables strings scopes names callees)
  read_done {strings} {scopes} {names} {callees} {e = x} e f₁ f f₄ d =
      let g₁ = f₁ in
      let g₂ = f.rows_are in
      let g₃ : names ≡ sets t.names 0 (name_words (string_count b) (scopes_of b.scopes))
      = f.names_are ∙ ap (λ (x : ℕ). sets t.names 0 (name_words x (scopes_of b.scopes))) en in
      let g₄ : callees ≡ sets t.callees 0 (callee_words (callees_of (string_count b) b.callees))
      = f₄ ∙ ap (λ (x : ℕ). sets t.callees 0 (callee_words (callees_of x b.callees))) en in
      let g : tables strings scopes names callees ≡ with_rows b t = cc in
      let made : Counts → Bool → Answer (Marked Counts) = λ k a. gives (record { value = k; exact = a }) in
      take _ _ _ (ok_is ∙ e) (given refl (ap (λ (k : Counts). made k x) counts_are ∙ ap (made (counts_of b)) d) g)

  pub read_4 : {k : Refusal} → ok ≡ false → k ≡ refusal_at 4 0 → ReadParts b t (Err k) t
  read_4 e f = leave _ _ _ (ok_is ∙ e) (refused refl (ap refuses f))
