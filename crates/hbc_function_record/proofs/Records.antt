-- What the checks of fields.rt and lib.rt cite: a number of bytes as two words, a header of zeros, a large header that is there.
use Prim.Native.Nat.{ℕ, ◌+◌, ◌*◌, ◌^◌, ◌≤◌}
use mathlib.Core.Path.{◌≡◌, refl, sym}
use mathlib.Core.List.{List}
use mathlib.Core.Bool.{false, cond}
use native.Mathlib.Omega.{arith}
use lib.ListN.{length}
use borrow.Author.Tests.{le-ltb}
use Rattle.std.specs.Prelude.{Some, None}
use Rattle.hbc_bits.specs.Fields.{fields_of}
use Rattle.hbc_bits.specs.Bits.{le_at, field}
use Rattle.hbc_bits.proofs.Laws.{le_add}
use Rattle.hbc_io.specs.Outcome.{limit}
use Rattle.hbc_io.proofs.Plains.{word_there, word_none}
use Rattle.hbc_io.specs.Lends.{below, choose}
use Rattle.hbc_function_record.specs.declared.Layout.{Layout}
use Rattle.hbc_function_record.specs.declared.Layout.TheVariants as lay
use Rattle.hbc_function_record.specs.declared.Legacy.{Legacy}
use Rattle.hbc_function_record.specs.declared.Modern.{Modern}
use Rattle.hbc_function_record.specs.declared.Record.TheVariants as rec
use Rattle.hbc_function_record.specs.Record.{large_of, legacy_of, modern_of, legacy_by, modern_by, inline_of, large_at, large_in, flags_of, overflowed, legacy_place, modern_place, place_of, link_of}

-- ---- a number as two words

pub le_eight : (s : List ℕ) (at : ℕ) → at + 8 ≤ length s → le_at s at 8 ≡ le_at s at 4 + le_at s (at + 4) 4 * 2 ^ 32
le_eight s at h = let e = le_add s at 4 4 (omega arith) in omega arith

-- the bytes of an inline header
pub le_legacy : (s : List ℕ) (at : ℕ) → at + 16 ≤ length s → le_at s at 16 ≡ le_at s at 8 + 2 ^ 64 * le_at s (at + 8) 8
le_legacy s at h = le_add s at 8 8 (omega arith)

pub le_modern : (s : List ℕ) (at : ℕ) → at + 12 ≤ length s → le_at s at 12 ≡ le_at s at 8 + 2 ^ 64 * le_at s (at + 8) 4
le_modern s at h = le_add s at 8 4 (omega arith)

-- ---- a header of zeros is not flagged

pub flag_zeros : (layout : Layout) → false ≡ overflowed (flags_of (inline_of layout 0 0))
unfolding inline_of legacy_of modern_of flags_of overflowed field legacy_by modern_by fields_of
flag_zeros lay.Legacy16 = refl
flag_zeros lay.Modern12 = refl

pub link_zeros : (layout : Layout) → None ≡ link_of (inline_of layout 0 0)
unfolding link_of choose inline_of legacy_of modern_of flags_of overflowed field legacy_by modern_by fields_of
link_zeros lay.Legacy16 = refl
link_zeros lay.Modern12 = refl

-- ---- what a header of each layout is flagged for

pub link_legacy : (r : Legacy) → link_of (rec.Legacy r) ≡ cond (overflowed r.flags) (Some (legacy_place r)) None
unfolding link_of choose flags_of place_of
link_legacy r = refl

pub link_modern : (r : Modern) → link_of (rec.Modern r) ≡ cond (overflowed r.flags) (Some (modern_place r)) None
unfolding link_of choose flags_of place_of
link_modern r = refl

-- ---- a large header that is there

pub large_there : (s : List ℕ) (layout : Layout) (at i : ℕ) → length s ≤ limit → at + large_of layout ≤ length s → large_at s layout at i ≡ large_in s layout at i
unfolding large_in below
large_there s layout at i h k = sym (rw (le-ltb limit (length s) h, le-ltb (length s) (at + large_of layout) k))

-- ---- what is there, and what is not

pub ruleset read_there = (word_there, word_none)
