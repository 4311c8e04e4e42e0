-- The part of a string, told as two numbers.
use mathlib.Core.Path.{◌≡◌, refl}
use mathlib.Core.List.{List}
use Prim.Native.Nat.{ℕ}
use Rattle.hbc_io.specs.declared.Span.{Span}
use Rattle.hbc_table_bytes.specs.StringBytes.{string_span}
use Rattle.hbc_table_bytes.proofs.Laws.{span_names}
use Rattle.hbc_c_table.specs.Table.{ToldPart}

pub part_told : {storage rows : List ℕ} {index : ℕ} {p : Span} → p ≡ string_span storage rows index → ToldPart storage rows index p.start p.len
part_told {storage} {rows} {index} e =
    let n = span_names storage rows index in
    rw e (record { starts = refl; lasts = refl; inside = n.inside; is = n.is })
