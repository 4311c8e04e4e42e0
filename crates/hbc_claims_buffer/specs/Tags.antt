-- docs/FORMAT.md, section 5.3: how many tags are looked at for one with values.
use Rattle.std.specs.Prelude.{ℕ, ◌+◌, ◌≤◌, ◌≡◌, List, length}
use Rattle.hbc_io.specs.Outcome.{limit}
use Rattle.hbc_io.specs.declared.Cursor.{Cursor}
use Rattle.hbc_buffer.specs.Series.{head_at}

-- the tag that the definition finds, of at most as many as the buffer has bytes, is the one that is found of any more
abbrev pub Enough : ℕ → List ℕ → Cursor → Type 0
Enough k s c = length s ≤ limit → c.at ≤ length s → head_at (length s + k) s c ≡ head_at (length s) s c
