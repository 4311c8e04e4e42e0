use Prim.Native.Nat.{◌+◌, ◌*◌, ◌-◌}
use mathlib.Core.Path.{◌≡◌}
use native.Mathlib.Omega.{arith}
use Rattle.hbc_rows.specs.Rows.{row_at}
use Rattle.hbc_function_record.specs.Row.{width}
use Rattle.hbc_function_write.proofs.rows.Rows.row.Goals as goal

pub returns : goal.returns
unfolding row_at
returns c = let e : c.args.id * width + width - c.args.id * width ≡ width = omega arith in rw e
