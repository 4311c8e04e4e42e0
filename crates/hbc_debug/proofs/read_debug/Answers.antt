use borrow.Author.Rules.{rules}
use mathlib.Core.Path.{◌≡◌}
use Rattle.std.specs.Prelude.{Err}
use Rattle.hbc_debug.proofs.Within.{section_refused, section_found, base_fits, part_fits}
use Rattle.hbc_debug.proofs.read_debug.Goals as goal

pub returns-in_err-parts : goal.returns-in_err-parts
returns-in_err-parts c =
    let r : c.from_residual.result ≡ Err c.in_err-parts.field-0.0 = search rules in
    rw r (section_refused c.args.file.now c.args.offset _ c.find_parts.ensures c.in_err-parts.was)

pub read_parts-requires : goal.read_parts-requires
read_parts-requires c = base_fits c.args.file.now c.args.offset c.find_parts.ensures c.in_ok-parts.was c.part_bytes-string_bytes.ensures.bytes

pub returns : goal.returns
returns c =
    let a = c.args in
    section_found a.file.now a.offset _ c.find_parts.ensures c.in_ok-parts.was
    c.part_bytes-string_bytes.ensures.bytes c.part_bytes-scope_bytes.ensures.bytes c.part_bytes-callee_bytes.ensures.bytes c.read_parts.ensures

pub invariant_of-read_parts : goal.invariant_of-read_parts
invariant_of-read_parts c = record { short = part_fits c.args.file.now c.args.offset _ c.find_parts.ensures c.in_ok-parts.was c.part_bytes-string_bytes.ensures.bytes }

pub invariant_of-read_parts-2 : goal.invariant_of-read_parts-2
invariant_of-read_parts-2 c = record { short = part_fits c.args.file.now c.args.offset _ c.find_parts.ensures c.in_ok-parts.was c.part_bytes-scope_bytes.ensures.bytes }

pub invariant_of-read_parts-3 : goal.invariant_of-read_parts-3
invariant_of-read_parts-3 c = record { short = part_fits c.args.file.now c.args.offset _ c.find_parts.ensures c.in_ok-parts.was c.part_bytes-callee_bytes.ensures.bytes }
