-- Each case computes.
use Prim.Native.Nat.{ℕ, ◌-◌}
use mathlib.Core.Path.{◌≡◌, refl, ap, ◌∙◌}
use mathlib.Core.Bool.{Bool, true, false, cond}
use mathlib.Core.List.{List, []}
use lib.Dec.{ltb}
use lib.ListN.{length, take, drop}
use Rattle.hbc_io.specs.Plain.{bytes_at, span_of}
use Rattle.hbc_io.specs.declared.Span.{Span}
use Rattle.hbc_io_leb.specs.Leb.{leb_bytes}
use Rattle.hbc_io_strings.specs.Strings.{prefixed}
use Rattle.hbc_rows.specs.Until.{until, after}
use Rattle.hbc_io_leb.specs.Signed.{sleb_at, up_to, under, low32}
use Rattle.hbc_io_leb.specs.Numbers.{exact}
use Rattle.hbc_debug_parts.specs.Parts.{parts_of, is_empty, no_part, no_parts, part_bytes}
use Rattle.hbc_debug_parts.specs.Along.{along, every}
use Rattle.hbc_debug_parts.proofs.Along.{every_none}
use Rattle.hbc_debug_strings.specs.Strings.{strings_of, prefix_number, string_numbers}
use Rattle.hbc_debug_scopes.specs.Scopes.{front_at, scope_at, scopes_of, scope_row, name_row, name_count, word_below, front_numbers, name_number, numbers_at, scope_numbers}
use Rattle.hbc_debug_pairs.specs.Pairs.{pair_at, pair_of, counter_at, pair_numbers}
use Rattle.hbc_debug_rising.specs.Rising.{last_name, after1}
use Rattle.hbc_debug_callees.specs.Callees.{pairs_of, callee_numbers}
use Rattle.hbc_debug.specs.Debug.{contents_in, numbers_read, all_exact}
use Rattle.hbc_io.specs.Lends.{below, choose}
use Rattle.hbc_claims_debug.specs.Cases.{Cases}

-- a part of no bytes
none_in : (file : List ℕ) → part_bytes file no_part ≡ []
none_in file = go (ltb (length file) 0) (ltb (length file - 0) 0)
  where
    spanned : Bool → Bool → Span
    spanned a b = cond a (span_of 0 0) (cond b (span_of 0 0) (span_of 0 0))

    go : (a b : Bool) → take (spanned a b).len (drop (spanned a b).start file) ≡ []
    go true b = refl
    go false true = refl
    go false false = refl

none_read : (file : List ℕ) → numbers_read (contents_in file no_parts) ≡ []
unfolding numbers_read along string_numbers scope_numbers callee_numbers leb_bytes counter_at sleb_at
none_read file = rw (none_in file)

none_exact : (file : List ℕ) → all_exact (contents_in file no_parts) ≡ true
unfolding all_exact
none_exact file = ap (every exact) (none_read file) ∙ every_none exact

pub cases : Cases
unfolding strings_of until prefixed leb_bytes bytes_at scopes_of after scope_at front_at sleb_at up_to scope_row name_count word_below under low32 name_row pairs_of counter_at pair_at pair_of last_name after1 parts_of is_empty below choose along every exact string_numbers prefix_number scope_numbers numbers_at front_numbers name_number callee_numbers pair_numbers
cases = record {
  strings = refl;
  scope = refl;
  scope_row_lem = refl;
  scope_names = refl;
  row_offset = λ first x. refl;
  row_parent = λ first x. refl;
  row_flags = λ first x. refl;
  row_first = λ first x. refl;
  row_count = λ first x. refl;
  row_width = λ first x. refl;
  scope_cut = refl;
  scope_negative = refl;
  scope_above = refl;
  callee_last = refl;
  cut_length = refl;
  cut_length_lost = refl;
  given_up = refl;
  refused_count = refl;
  refused_callees = refl;
  unknown_name = refl;
  unknown_callee = refl;
  name_fails = refl;
  address_fails = refl;
  empty_0 = refl;
  empty_all_ones = refl;
  empty_end = refl;
  short_header = refl;
  none_read = none_read;
  none_exact = none_exact;
}
