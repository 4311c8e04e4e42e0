use Rattle.hbc_rows.specs.Rows.{entry_at}
use Rattle.hbc_clean_large.proofs.Filling.{place_low}
use native.Mathlib.Omega.{arith}
use mathlib.Core.Path.{refl}
use Rattle.hbc_clean_large.proofs.Filling.{kept_here, looked_before, looked_after, looked_new, looked_kept}
use Rattle.hbc_clean_large.proofs.Slots.{size_small}
use Rattle.hbc_clean_large.proofs.look.Goals as goal

pub nonzero_div-slot : goal.nonzero_div-slot
nonzero_div-slot c = omega (arith, c.large_size.ensures, (size_small c.args.layout).0)

pub returns-then-slot-first : goal.returns-then-slot-first
returns-then-slot-first c = looked_before c.args.layout _ _ _ _ _ c.requires.4 c.requires.5 (rw c.large_size.ensures at c.if-slot-first.true)

pub returns-then-k-ge-SLOTS : goal.returns-then-k-ge-SLOTS
returns-then-k-ge-SLOTS c = looked_after c.args.layout _ _ _ _ _ c.requires.4 c.requires.5 (rw c.large_size.ensures at c.if-slot-first.false) (rw c.large_size.ensures at c.if-k-ge-SLOTS.true)

pub nearer-own-requires : goal.nearer-own-requires
nearer-own-requires c = (c.requires.0, c.requires.1, place_low _ c.requires.3 c.requires.4 c.requires.1, kept_here _ c.requires.3 c.requires.5 c.word_of.ensures)

pub nearer-left-requires : goal.nearer-left-requires
nearer-left-requires c = (c.requires.0, c.requires.1, place_low _ c.requires.3 c.requires.4 c.requires.1, kept_here _ c.requires.3 c.requires.5 c.word_of-2.ensures)

pub nearer-right-requires : goal.nearer-right-requires
nearer-right-requires c = (c.requires.0, c.requires.1, place_low _ c.requires.3 c.requires.4 c.requires.1, kept_here _ c.requires.3 c.requires.5 c.word_of-3.ensures)

pub returns-then-t-k-eq0 : goal.returns-then-t-k-eq0
unfolding entry_at
returns-then-t-k-eq0 c = looked_new c.args.layout _ _ _ _ _ c.requires.4 c.requires.5 (rw c.large_size.ensures at c.if-slot-first.false) (rw c.large_size.ensures refl) c.if-k-ge-SLOTS.false c.left_of.ensures (rw c.word_of.ensures at c.nearer-own.ensures) (rw c.word_of-2.ensures at c.nearer-left.ensures) (rw c.word_of-3.ensures at c.nearer-right.ensures) c.if-t-k-eq0.true

pub returns-else-t-k-eq0 : goal.returns-else-t-k-eq0
unfolding entry_at
returns-else-t-k-eq0 c = looked_kept c.args.layout _ _ _ _ _ c.requires.4 c.requires.5 (rw c.large_size.ensures at c.if-slot-first.false) (rw c.large_size.ensures refl) c.if-k-ge-SLOTS.false c.left_of.ensures (rw c.word_of.ensures at c.nearer-own.ensures) (rw c.word_of-2.ensures at c.nearer-left.ensures) (rw c.word_of-3.ensures at c.nearer-right.ensures) c.if-t-k-eq0.false
