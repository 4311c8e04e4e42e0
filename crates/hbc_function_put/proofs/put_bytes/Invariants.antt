use Rattle.std.proofs.Common.{◌≡◌, take}
use Rattle.hbc_rows.specs.Rows.{put}
use Rattle.hbc_function_put.specs.Private.{each_in}
use Rattle.hbc_function_put.proofs.put_bytes.Given as goal

-- the bytes before this one are put
abbrev pub invariant-loop-k : goal.invariant-loop-k
invariant-loop-k g l = l.buffer ≡ put l.at (each_in 1 (take l.k l.value-items)) l.initial.buffer
