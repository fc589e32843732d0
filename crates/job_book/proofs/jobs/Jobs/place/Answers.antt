use Rattle.std.proofs.Common.{◌∙◌, ap}
use Rattle.std.specs.List.{list_any}
use Rattle.farm_types.specs.Jobs.{JobLists, job_refusal}
use Rattle.job_book.specs.Names.{is_named}
use Rattle.job_book.proofs.EndingLemmas.LeftJobs.{still_accepted, unnamed_left}
use Rattle.job_book.proofs.PlacementLemmas.Placed.{accepted_new}
use Rattle.job_book.proofs.jobs.Jobs.place.Goals as goal

pub place_new-requires-clause-accepted : goal.place_new-requires-clause-accepted
place_new-requires-clause-accepted c =
    ap (λ (b : JobLists). job_refusal b c.args.spec) c.leave_named.ensures ∙ still_accepted c.args.self.now c.args.spec c.requires.accepted

pub place_new-requires-clause-unnamed : goal.place_new-requires-clause-unnamed
place_new-requires-clause-unnamed c =
    ap (λ (b : JobLists). list_any (is_named c.args.spec.name) b.jobs) c.leave_named.ensures
    ∙ unnamed_left c.args.spec.name c.args.self.now.jobs (accepted_new c.args.self.now c.args.spec c.requires.accepted)
