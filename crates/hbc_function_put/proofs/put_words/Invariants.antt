use Rattle.std.proofs.Common.{◌≡◌, take}
use Rattle.hbc_rows.specs.Rows.{put}
use Rattle.hbc_function_put.specs.Private.{each_in}
use Rattle.hbc_function_put.proofs.put_words.Given as goal

-- the words before this one are put
abbrev pub invariant-loop-k : goal.invariant-loop-k
invariant-loop-k g l = l.buffer ≡ put 0 (each_in 4 (take l.k l.word-items)) l.initial.buffer
