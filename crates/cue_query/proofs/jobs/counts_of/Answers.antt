use Rattle.std.proofs.Common.{◌∙◌, ap}
use Rattle.farm_types.specs.Booking.{is_pending}
use Rattle.farm_types.specs.Jobs.{JobLists}
use Rattle.job_book.specs.Book.{counts_of}
use Rattle.farm_types.specs.Step.{lists_of}
use Rattle.cue_query.proofs.Counted.{pending_counts}
use Rattle.cue_query.proofs.jobs.counts_of.Goals as goal

pub returns-in-Pending : goal.returns-in-Pending
returns-in-Pending c =
    let job = c.args.job.now in
    c.counts.ensures ∙ (ap (λ (b : JobLists). counts_of job.job b.slots) (c.jobs.ensures ∙ ap lists_of c.books.ensures.farm) ∙ pending_counts c.args.farm.now job (ap is_pending c.in-Pending.is))
