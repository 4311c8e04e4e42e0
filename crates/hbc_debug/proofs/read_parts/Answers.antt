use native.Mathlib.Omega.{arith}
use Rattle.hbc_debug.specs.Debug.{contents}
use Rattle.hbc_debug.proofs.Whole.{strings_most, all_fit, marks_are, read_done, read_4}
use Rattle.hbc_debug.proofs.read_parts.Goals as goal

pub overflow_cast-n : goal.overflow_cast-n
overflow_cast-n c = omega (arith, strings_most c.args.string_part.bytes.now, c.string_count-counted.ensures.0, c.requires)

pub put_strings-requires : goal.put_strings-requires
put_strings-requires c = (c.requires, c.string_count-counted.ensures.0, (all_fit _ _ c.fits.ensures c.if-fits.true).strings)

pub overflow_cast-n-then-fits : goal.overflow_cast-n-then-fits
overflow_cast-n-then-fits c = omega (arith, strings_most c.args.string_part.bytes.now, c.string_count-counted.ensures.0, c.requires)

pub put_scopes-requires : goal.put_scopes-requires
put_scopes-requires c = let fit = all_fit _ _ c.fits.ensures c.if-fits.true in record { counts_value = c.scope_counts-found.ensures.0; scopes_bound = (fit.scopes, fit.names) }

pub overflow_cast-n-then-fits-2 : goal.overflow_cast-n-then-fits-2
overflow_cast-n-then-fits-2 c = omega (arith, strings_most c.args.string_part.bytes.now, c.string_count-counted.ensures.0, c.requires)

pub put_callees-requires : goal.put_callees-requires
put_callees-requires c = (c.callee_count-k.ensures.0, (all_fit _ _ c.fits.ensures c.if-fits.true).callees)

pub returns-then-fits : goal.returns-then-fits
returns-then-fits c =
    let a = c.args in
    read_done (contents a.string_part.bytes.now a.base a.scope_part.bytes.now a.callee_part.bytes.now) _ c.string_count-counted.ensures.0 c.scope_counts-found.ensures.0 c.callee_count-k.ensures.0 c.fits.ensures
    c.if-fits.true c.put_strings.ensures c.put_scopes.ensures c.put_callees.ensures
    (marks_are (contents a.string_part.bytes.now a.base a.scope_part.bytes.now a.callee_part.bytes.now) c.string_count-counted.ensures.0 c.scope_counts-found.ensures.1 c.callee_count-k.ensures.1 c.string_count-counted.ensures.1)

pub returns : goal.returns
returns c =
    let a = c.args in
    read_4 (contents a.string_part.bytes.now a.base a.scope_part.bytes.now a.callee_part.bytes.now) _ c.string_count-counted.ensures.0 c.scope_counts-found.ensures.0 c.callee_count-k.ensures.0 c.fits.ensures
    c.if-fits.false c.refuse.ensures
