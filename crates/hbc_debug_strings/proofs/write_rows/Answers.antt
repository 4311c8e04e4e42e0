use native.Mathlib.Omega.{arith}
use Prim.Native.Nat.{◌+◌, ◌-◌, ◌*◌}
use mathlib.Core.Path.{◌≡◌, refl, ap, ◌∙◌}
use mathlib.Core.List.{[], ◌∷◌}
use lib.ListN.{length}
use lib.Seq.{sets}
use Rattle.hbc_io.specs.Answers.{says}
use Rattle.hbc_io.proofs.Reading.{found}
use Rattle.hbc_io_strings.proofs.Strings.{span_got, span_refused}
use Rattle.hbc_rows.proofs.Passes.{written_first, written_on, written_stop, written_done}
use Rattle.hbc_debug_parts.specs.declared.InFile.{InFile}
use Rattle.hbc_debug_strings.specs.Strings.{strings_of, string_width}
use Rattle.hbc_debug_strings.proofs.Inside.{inside}
use Rattle.hbc_debug_strings.proofs.write_rows.Goals as goal

pub loop-n-init : goal.loop-n-init
unfolding strings_of
loop-n-init c = let z : length c.args.part.now - 0 ≡ length c.args.part.now = omega arith in rw z (written_first _ _)

pub returns-in_default : goal.returns-in_default
returns-in_default c = written_stop (span_refused _ _ (found says c.read_length_prefixed_string.ensures c.in_default.is)) c.loop-n.invariant

pub part_to_file-start-requires : goal.part_to_file-start-requires
part_to_file-start-requires c = omega (arith, inside _ _ _ _ (span_got _ _ (found says c.read_length_prefixed_string.ensures c.in-Ok.is)))

pub overflow_cast-row : goal.overflow_cast-row
overflow_cast-row c = let f = ap (λ (x : InFile). x.0) c.part_to_file-start.ensures in omega (arith, inside _ _ _ _ (span_got _ _ (found says c.read_length_prefixed_string.ensures c.in-Ok.is)))

pub overflow_cast-row-in-loop-n : goal.overflow_cast-row-in-loop-n
overflow_cast-row-in-loop-n c = omega (arith, inside _ _ _ _ (span_got _ _ (found says c.read_length_prefixed_string.ensures c.in-Ok.is)))

pub loop-n-preserved : goal.loop-n-preserved
loop-n-preserved c =
    let l = c.loop-n in
    let f = c.part_to_file-start.ensures in
    let put = c.put_words.ensures ∙ ap (λ (x : InFile). sets l.rows (2 * l.n) (x.0 ∷ c.in-Ok.string.span.len ∷ [])) f in
    let read = span_got _ _ (found says c.read_length_prefixed_string.ensures c.in-Ok.is) in
    let all = length c.args.part.now in
    let j : all - l.n - 1 ≡ all - (l.n + 1) = omega arith in
    let k : string_width * l.n + string_width ≡ string_width * (l.n + 1) = omega arith in
    rw (← j, ← k) (written_on string_width (omega arith) read refl put l.invariant)

pub returns : goal.returns
returns c = written_done (omega arith) c.loop-n.invariant
