use mathlib.Core.Path.{◌∙◌, ap, sym}
use lib.Dec.{leb}
use Rattle.hbc_function_record.specs.declared.Layout.{Layout}
use Rattle.hbc_function_header.specs.Header.{function_at}
use Rattle.hbc_function.specs.Table.{put_rows}
use Rattle.hbc_function.proofs.write_rows.Goals as goal

pub returns-in-Legacy16 : goal.returns-in-Legacy16
returns-in-Legacy16 c =
    let r = c.write_legacy.ensures in
    (r.0 ∙ ap (λ (l : Layout). put_rows (leb c.args.from) (function_at c.args.s.now l c.args.start) c.args.table.now c.args.to) (sym c.in-Legacy16.is), r.1, r.2, r.3)

pub returns-in-Modern12 : goal.returns-in-Modern12
returns-in-Modern12 c =
    let r = c.write_modern.ensures in
    (r.0 ∙ ap (λ (l : Layout). put_rows (leb c.args.from) (function_at c.args.s.now l c.args.start) c.args.table.now c.args.to) (sym c.in-Modern12.is), r.1, r.2, r.3)
