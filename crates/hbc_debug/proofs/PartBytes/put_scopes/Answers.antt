use Rattle.hbc_debug.proofs.Lists.{scopes_put}
use Rattle.hbc_debug.proofs.PartBytes.put_scopes.Goals as goal

pub returns : goal.returns
returns c = scopes_put _ _ c.args.counts _ _ c.args.self.short c.requires.counts_value c.requires.scopes_bound.0 c.requires.scopes_bound.1 c.write_scopes.ensures
