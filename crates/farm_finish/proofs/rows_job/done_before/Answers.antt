use Rattle.std.proofs.Common.{◌∙◌, ap}
use Rattle.job_entries.specs.declared.counts.Counts.{Counts}
use Rattle.job_book.proofs.EndingLemmas.FreedJob.{eaten_is, succeeded_is}
use Rattle.farm_finish.proofs.rows_job.done_before.Goals as goal

pub returns : goal.returns
returns c =
    let slots = c.args.book.now.slots in
    λ i. record {
      eaten = (ap (λ (n : Counts). n.eaten) c.counts-counts.ensures ∙ eaten_is c.args.job slots) i;
      succeeded = (ap (λ (n : Counts). n.succeeded) c.counts-counts.ensures ∙ succeeded_is c.args.job slots) i;
    }
