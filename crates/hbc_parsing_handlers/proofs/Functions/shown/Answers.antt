use Rattle.hbc_parsing_handlers.proofs.Laws.{found_is}
use Rattle.hbc_parsing_handlers.proofs.Functions.shown.Goals as goal

pub returns : goal.returns
returns c = found_is c.why.ensures c.unwrap_or.ensures
