use native.Mathlib.Omega.{arith}
use Rattle.hbc_buffer_literal.specs.Literal.{width_of}
use Rattle.hbc_buffer_literal.proofs.Laws.{width_none}
use Rattle.hbc_buffer.proofs.fill_run.Goals as goal

pub fill_payloads-requires-in_default : goal.fill_payloads-requires-in_default
unfolding width_of
fill_payloads-requires-in_default c = rw (← width_none {t = c.args.tag} (omega arith) (omega arith) (omega arith) (omega arith) (omega arith)) c.requires

pub returns-in_default : goal.returns-in_default
unfolding width_of
returns-in_default c = rw (width_none {t = c.args.tag} (omega arith) (omega arith) (omega arith) (omega arith) (omega arith)) c.fill_payloads-in_default.ensures
