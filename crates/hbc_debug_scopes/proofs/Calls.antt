-- The ways out of the calls, over what the two passes find and leave.
use mathlib.Core.Path.{◌≡◌, ap, ◌∙◌}
use mathlib.Core.Bool.{Bool}
use mathlib.Core.List.{List}
use Prim.Native.Nat.{ℕ, ◌-◌}
use lib.ListN.{length, take, drop}
use borrow.Rule.Slice.PartMut.{put_mid}
use Rattle.hbc_io_leb.specs.Numbers.{exact}
use Rattle.hbc_debug_parts.specs.Lists.{in_front}
use Rattle.hbc_debug_parts.specs.Along.{every}
use Rattle.hbc_debug_parts.proofs.Fronts.{front_put}
use Rattle.hbc_debug_scopes.specs.Scopes.{scopes_of, names_in, scope_words, name_words, scope_numbers}
use Rattle.hbc_debug_scopes.specs.Private.{ScopesAre, RowsAre}
use Rattle.hbc_debug_scopes.specs.declared.ScopeCounts.{ScopeCounts}

-- the two counts and the mark as one answer
pub counts_are : (s : List ℕ) (r : ScopeCounts) → ScopesAre s r.scopes r.names → r.exact ≡ every exact (scope_numbers s)
    → r ≡ record { scopes = length (scopes_of s); names = names_in (scopes_of s); exact = every exact (scope_numbers s) }
counts_are s r v e =
    let made : ℕ → ℕ → Bool → ScopeCounts = λ n m x. record { scopes = n; names = m; exact = x } in
    ap (λ (n : ℕ). made n r.names r.exact) v.scopes_are ∙ ap (λ (m : ℕ). made (length (scopes_of s)) m r.exact) v.names_are
    ∙ ap (made (length (scopes_of s)) (names_in (scopes_of s))) e

-- the two tables after a pass that was lent the first words of each
pub fronts_put : (s : List ℕ) (strings n m : ℕ) (t u : List ℕ) {t' u' : List ℕ} → RowsAre s strings (take (n - 0) (drop 0 t)) (take (m - 0) (drop 0 u)) t' u'
    → ◌≡◌ {A = List ℕ × List ℕ} (put_mid 0 (n - 0) t t', put_mid 0 (m - 0) u u') (in_front n (scope_words (scopes_of s)) t, in_front m (name_words strings (scopes_of s)) u)
fronts_put s strings n m t u v =
    let a = front_put n t (scope_words (scopes_of s)) v.rows_are in
    let b = front_put m u (name_words strings (scopes_of s)) v.names_are in
    cc
