use Rattle.std.proofs.Common.{arith}
use Rattle.hbc_io.specs.Answers.{says}
use Rattle.hbc_io.proofs.Reading.{found}
use Rattle.hbc_buffer_literal.proofs.Laws.{payload_lt}
use Rattle.hbc_buffer_literal.proofs.by_tag.Goals as goal

pub worded-requires : goal.worded-requires
worded-requires c =
    let known = found says c.read_payload.ensures c.in_ok-v-in_default.was in
    (omega arith, omega arith, payload_lt _ _ _ (λ i. (c.type_inv.s i).fits) (omega arith) known)
