-- What the loop of the writing knows: the headers of rows 0 to id - 1 are put, and the next large one goes from `free` on.
use Prim.Native.Nat.{ℕ, ◌+◌, ◌≤◌, ◌<◌}
use mathlib.Core.Path.{◌≡◌, refl}
use mathlib.Core.List.{List}
use mathlib.Core.Bool.{false}
use native.Mathlib.Omega.{arith}
use lib.ListN.{length}
use Rattle.hbc_rows.specs.Rows.{row_at}
use Rattle.hbc_function_record.specs.declared.Layout.{Layout}
use Rattle.hbc_function_record.specs.Record.{size_of, large_of}
use Rattle.hbc_function_record.specs.Row.{width}
use Rattle.hbc_function_header.specs.Header.{header_at}
use Rattle.hbc_function_bytes.specs.Bytes.{goes_inline}
use Rattle.hbc_function_write.specs.Write.{rounded, place_at}
use Rattle.hbc_function_write.specs.Private.{Room, PutRow}
use Rattle.hbc_function_write.proofs.Places.{head_in, place_in}
use Rattle.hbc_function_write.proofs.Turns.{Done, done_first, done_more}

pub record Writing (rows : List ℕ) (layout : Layout) (start count large : ℕ) (before : List ℕ) (i free : ℕ) (s : List ℕ) : Type 0 where
  pub within : i ≤ count
  pub done : Done layout (row_at width rows) start large before i free s

pub writing_first : (rows : List ℕ) (layout : Layout) (start count large : ℕ) (s : List ℕ) → Writing rows layout start count large s 0 large s
writing_first rows layout start count large s = record { within = omega arith; done = done_first layout (row_at width rows) start large s }

module _ {rows : List ℕ} {layout : Layout} {start count large : ℕ} {before : List ℕ} {i free : ℕ} {s : List ℕ}
    (v : Writing rows layout start count large before i free s) where
  module _ (h : i < count) where
    module _ (r : Room layout (row_at width rows) start large count (length before)) where
      pub writing_head : header_at layout start i + size_of layout ≤ length s
      writing_head = rw v.done.size (head_in r i h)

      pub writing_large : goes_inline layout (row_at width rows i) ≡ false → rounded free + large_of layout ≤ length s
      unfolding place_at
      writing_large g = rw (v.done.size, v.done.free) (place_in r i h g)

    pub writing_more : {t : List ℕ} {next : ℕ} → PutRow layout (header_at layout start i) free (row_at width rows i) s next t
        → Writing rows layout start count large before (i + 1) next t
    writing_more p = record { within = omega arith; done = done_more layout (row_at width rows) start large v.done refl refl p }
