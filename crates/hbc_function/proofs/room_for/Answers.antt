use Rattle.hbc_function.specs.Refresh.{held}
use Rattle.hbc_function.proofs.Laws.{size_pos}
use Rattle.hbc_function.proofs.room_for.Goals as goal

pub nonzero_div-result : goal.nonzero_div-result
nonzero_div-result c = rw c.header_size-size.ensures (size_pos c.args.layout)

pub returns : goal.returns
unfolding held
returns c = rw c.header_size-size.ensures
