use Rattle.std.proofs.Common.{◌∙◌, ap}
use Rattle.farm_types.specs.Jobs.{JobLists}
use Rattle.job_book.specs.Book.{job_named}
use Rattle.job_book.proofs.NamedJobs.{name_found}
use Rattle.job_book.proofs.jobs.Jobs.find.Goals as goal

pub returns : goal.returns
returns c =
    let inside = c.self.inside in
    let name = c.args.name.now in
    c.get.ensures ∙ name_found inside.names.pairs inside.entries.rows c.self.invariant.names name ∙ ap (λ (b : JobLists). job_named b name) c.self.view_is
