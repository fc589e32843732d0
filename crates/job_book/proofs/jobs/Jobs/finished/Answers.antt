use Rattle.std.proofs.Common.{◌∙◌, map, ap}
use Rattle.farm_types.specs.Jobs.{JobLists}
use Rattle.job_book.specs.Finished.{finished_of}
use Rattle.job_index.specs.Keys.{job_of}
use Rattle.job_book.proofs.jobs.Jobs.finished.Goals as goal

pub returns : goal.returns
returns c =
    c.jobs.ensures ∙ (ap (map job_of) c.self.invariant.finished.keys_are ∙ ap (λ (b : JobLists). finished_of b.jobs) c.self.view_is)
