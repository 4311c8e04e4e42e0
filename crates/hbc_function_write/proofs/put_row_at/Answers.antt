use mathlib.Core.Path.{◌≡◌, refl, sym, ◌∙◌}
use native.Mathlib.Omega.{arith}
use Rattle.hbc_function_record.specs.Record.{size_of, large_of}
use Rattle.hbc_function_put.proofs.Puts.{header_part, large_part}
use Rattle.hbc_function_write.proofs.Turns.{row_inline, row_large}
use Rattle.hbc_function_write.proofs.put_row_at.Goals as goal

pub returns-then-is_inline : goal.returns-then-is_inline
returns-then-is_inline g c =
    let l : c.LAYOUT-layout.result ≡ g.F.Form.LAYOUT = c.LAYOUT-layout.ensures in
    let n : c.HEADER-size.result ≡ size_of g.F.Form.LAYOUT = c.HEADER-size.ensures ∙ g.met.F.Form.header_is in
    rw n
    (row_inline _ _ _ _ _ (sym c.is_inline.ensures ∙ c.if-is_inline.true) (rw (c.copied.ensures, l) at c.inline_words.ensures)
    (header_part g.F.Form.LAYOUT _ _ _ c.requires.size_of_in_bounds (rw (l, n) at c.put_header.ensures)))

pub returns : goal.returns
returns g c =
    let h = c.requires.large_of_in_bounds (sym c.is_inline.ensures ∙ c.if-is_inline.false) in
    let l : c.LAYOUT-layout.result ≡ g.F.Form.LAYOUT = c.LAYOUT-layout.ensures in
    let n : c.HEADER-size.result ≡ size_of g.F.Form.LAYOUT = c.HEADER-size.ensures ∙ g.met.F.Form.header_is in
    let m : c.LARGE-more.result ≡ large_of g.F.Form.LAYOUT = c.LARGE-more.ensures ∙ g.met.F.Form.large_is in
    rw (n, m)
    (row_large _ _ _ _ _ c.rounded_up-place.ensures (sym c.is_inline.ensures ∙ c.if-is_inline.false) (rw l at c.pointer_words.ensures)
    (header_part g.F.Form.LAYOUT _ _ _ c.requires.size_of_in_bounds (rw (l, n) at c.put_header-2.ensures))
    (large_part g.F.Form.LAYOUT _ _ _ (rw (← n) (omega (arith, c.rounded_up-place.ensures))) (rw (c.copied-2.ensures, l, m, n) at c.put_large.ensures)) refl)
