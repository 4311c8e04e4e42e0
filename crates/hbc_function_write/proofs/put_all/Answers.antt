use mathlib.Core.Path.{◌≡◌, ◌∙◌}
use Rattle.hbc_function_record.specs.Record.{size_of}
use Rattle.hbc_function_write.proofs.Places.{is_ended}
use Rattle.hbc_function_write.proofs.Writing.{writing_first, writing_head, writing_large, writing_more}
use Rattle.hbc_function_write.proofs.put_all.Goals as goal

pub loop-id-init : goal.loop-id-init
loop-id-init g c = writing_first _ _ _ _ _ _

pub put_row_at-free-requires : goal.put_row_at-free-requires
put_row_at-free-requires g c =
    let n : c.HEADER.result ≡ size_of g.F.Form.LAYOUT = c.HEADER.ensures ∙ g.met.F.Form.header_is in
    record {
      size_of_in_bounds = rw n (writing_head c.loop-id.invariant c.loop-id-test.true c.requires.room);
      large_of_in_bounds = (λ e. writing_large c.loop-id.invariant c.loop-id-test.true c.requires.room (rw c.row.ensures at e));
      id_value = (λ e. rw c.row.ensures ((c.requires.inlines e).all _ c.loop-id-test.true));
      ended = rw c.row.ensures (is_ended _ c.requires.ends _ c.loop-id-test.true);
    }

pub loop-id-preserved : goal.loop-id-preserved
loop-id-preserved g c =
    let n : c.HEADER.result ≡ size_of g.F.Form.LAYOUT = c.HEADER.ensures ∙ g.met.F.Form.header_is in
    writing_more c.loop-id.invariant c.loop-id-test.true (rw (c.row.ensures, n) at c.put_row_at-free.ensures)
