use native.Mathlib.Omega.{arith}
use Rattle.std.proofs.lemmas.Grind.{common_steps}
use Prim.Native.Nat.{◌≤◌}
use lib.ListN.{length}
use Rattle.hbc_io.specs.Outcome.{limit}
use Rattle.hbc_function_header.proofs.Headers.{open_in, row_by_lem}
use Rattle.hbc_function_header.proofs.function_row.Goals as goal

pub returns : goal.returns
returns c =
    let h : (length c.args.file.now ≤ limit) × (c.args.start ≤ length c.args.file.now) = grind (arith, common_steps, open_in) in
    row_by_lem _ _ _ _ _ h.0 h.1 (omega arith) c.header_at.ensures.0 c.row.ensures
