use mathlib.Core.Path.{◌≡◌, refl}
use borrow.Author.Rules.{rules}
use Rattle.hbc_io.specs.Answer.{refuses}
use Rattle.hbc_job.specs.Job.{listing}
use Rattle.hbc_job.proofs.Listings.{has_file, no_job, is_listed, not_listed}
use Rattle.hbc_job.proofs.show.list_functions.Goals as goal

pub returns-in_err-job : goal.returns-in_err-job
returns-in_err-job c =
    let z : refuses c.in_err-job.field-0.0 ≡ listing c.args.s.now = no_job _ c.parse_job.ensures c.in_err-job.was in
    search (rules, z)

pub slice_bounds-file-count : goal.slice_bounds-file-count
slice_bounds-file-count c = let h = has_file c.args.s.now c.parse_job.ensures c.in_ok-job.was in search rules

pub slice_bounds-file-start : goal.slice_bounds-file-start
slice_bounds-file-start c = let h = has_file c.args.s.now c.parse_job.ensures c.in_ok-job.was in search rules

pub returns-in_err-read_functions : goal.returns-in_err-read_functions
returns-in_err-read_functions c =
    let z : refuses c.in_err-read_functions.field-0.0 ≡ listing c.args.s.now =
    not_listed _ c.parse_job.ensures c.in_ok-job.was refl c.read_functions.ensures c.in_err-read_functions.was in
    search (rules, z)

pub returns : goal.returns
returns c = is_listed _ c.parse_job.ensures c.in_ok-job.was refl c.read_functions.ensures c.in_ok-read_functions.was
