-- Two answers that say the same, with one mark, are the same.
use mathlib.Core.Path.{◌≡◌, ap, ◌∙◌}
use mathlib.Core.Bool.{Bool}
use Rattle.std.specs.Prelude.{Result}
use Rattle.hbc_io.specs.Answers.{says}
use Rattle.hbc_io.specs.declared.Cursor.{Cursor}
use Rattle.hbc_io.specs.declared.Stopped.{Stopped}
use Rattle.hbc_io.proofs.Alone.{one_read}
use Rattle.hbc_debug_parts.specs.declared.Marked.{Marked}
use Rattle.hbc_debug_pairs.specs.declared.Pair.{Pair}

abbrev PairAnswer : Type 0
PairAnswer = Marked (Result (Pair × Cursor) Stopped)

pub one_pair : (r q : PairAnswer) → says r.value ≡ says q.value → r.exact ≡ q.exact → r ≡ q
one_pair r q x y =
    let made : Result (Pair × Cursor) Stopped → Bool → PairAnswer = λ v e. record { value = v; exact = e } in
    ap (λ (v : Result (Pair × Cursor) Stopped). made v r.exact) (one_read r.value q.value x) ∙ ap (made q.value) y
