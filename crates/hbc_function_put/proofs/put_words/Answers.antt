use mathlib.Core.Path.{sym, ap, ◌∙◌}
use native.Mathlib.Omega.{arith}
use Rattle.hbc_bits.specs.Fields.{bytes_of}
use Rattle.hbc_rows.specs.Rows.{put}
use Rattle.hbc_rows.proofs.Puts.{put_none}
use Rattle.hbc_function_put.proofs.Puts.{first_more}
use Rattle.hbc_function_put.proofs.put_words.Goals as goal

pub loop-k-init : goal.loop-k-init
loop-k-init g c = sym (put_none 0 _)

pub loop-k-preserved : goal.loop-k-preserved
loop-k-preserved g c = c.put_word.ensures ∙ ap (put _ (bytes_of 4 _)) c.loop-k.invariant ∙ first_more 4 _ _ _ (omega arith)
