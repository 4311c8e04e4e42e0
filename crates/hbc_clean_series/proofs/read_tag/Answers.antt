use mathlib.Core.Path.{refl, sym}
use native.Mathlib.Omega.{arith}
use Rattle.hbc_bits.proofs.Laws.{field_lt}
use Rattle.hbc_buffer.proofs.Fills.{falsely}
use Rattle.hbc_buffer.proofs.Tags.{tag_there, tag_cut}
use Rattle.hbc_clean_series.proofs.read_tag.Goals as goal

pub overflow_add-next : goal.overflow_add-next
overflow_add-next c = omega (arith, c.requires.0, c.requires.1)

pub overflow_add-next-2 : goal.overflow_add-next-2
overflow_add-next-2 c = omega (arith, c.requires.0, c.requires.1, c.bits.ensures, field_lt 1 7 1 c.byte-b.result (omega arith))

pub returns-then-s-next : goal.returns-then-s-next
returns-then-s-next c =
    record {
      run = λ e. falsely e;
      cut = λ e. tag_cut _ _ c.requires.0 c.byte-b.ensures.0 refl c.bits.ensures c.requires.1 c.if-s-next.true;
    }

pub overflow_add-at : goal.overflow_add-at
overflow_add-at c = omega (arith, c.requires.0, c.requires.1)

pub length_of-size-requires : goal.length_of-size-requires
length_of-size-requires c = c.byte.ensures.1

pub returns : goal.returns
returns c =
    record {
      run = λ e. tag_there _ _ c.requires.0 c.byte-b.ensures.0 c.bits-2.ensures c.bits.ensures c.byte.ensures.0 c.length_of-size.ensures c.if-s-next.false;
      cut = λ e. falsely (sym e);
    }
