use mathlib.Core.Path.{◌≡◌}
use native.Mathlib.Omega.{arith}
use Rattle.std.specs.Prelude.{Err}
use Rattle.std.proofs.lemmas.Grind.{common_steps}
use Rattle.hbc_clean.proofs.Judging.{lesser_is}
use Rattle.hbc_clean.proofs.Verdicts.{headers_refused, strings_refuse, series_refuse, bundle_given}
use Rattle.hbc_clean.proofs.check_bundle.Goals as goal

pub returns-in_err-large : goal.returns-in_err-large
returns-in_err-large c =
    let q : c.from_residual.result ≡ Err c.in_err-large.field-0.0 = grind (arith, common_steps) in
    rw q (headers_refused _ c.in_err-large.ensures)

pub returns-in_err-text : goal.returns-in_err-text
returns-in_err-text c =
    let q : c.from_residual-in_err-text.result ≡ Err c.in_err-text.field-0.0 = grind (arith, common_steps) in
    rw q (strings_refuse _ c.in_ok-large.ensures (c.in_err-text.ensures _))

pub returns-in_err-lows : goal.returns-in_err-lows
returns-in_err-lows c =
    let q : c.from_residual-in_err-lows.result ≡ Err c.in_err-lows.field-0.0 = grind (arith, common_steps) in
    rw q (series_refuse _ c.in_ok-large.ensures (c.in_ok-text.ensures _) c.in_err-lows.ensures)

pub returns : goal.returns
returns c = bundle_given _ c.in_ok-large.ensures (c.in_ok-text.ensures _) c.in_ok-lows.ensures c.lowest_run.ensures (rw (lesser_is _ _ c.min.ensures) at c.verdict.ensures)
