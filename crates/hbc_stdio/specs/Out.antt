-- docs/FORMAT.md, section 9.2: the error of the first write that fails is kept, behind it nothing is written, and it is what becomes of the writes.
use Rattle.std.specs.Prelude.{◌≡◌, Bool, false}
use Rattle.std.specs.Option.{is_none}
use Rattle.hbc_stdio.specs.declared.Out.{Out}

-- no write has failed
abbrev pub whole : Out → Bool
whole o = is_none o.failed

-- a write, whatever is written: once one has failed, the output and the error stay as they are
pub record Writes (before after : Out) : Type 0 where
  pub stays : whole before ≡ false → after ≡ before
