use mathlib.Core.Path.{ap, ◌∙◌}
use native.Mathlib.Omega.{arith}
use Rattle.hbc_rows.specs.Rows.{put}
use Rattle.hbc_function_put.specs.Private.{each_in}
use Rattle.hbc_function_put.proofs.Puts.{words_and_bytes}
use Rattle.hbc_function_put.proofs.store.Goals as goal

pub returns : goal.returns
returns g c = c.put_bytes.ensures ∙ ap (put _ (each_in 1 _)) c.put_words.ensures ∙ words_and_bytes _ _ _ _ (omega arith)
