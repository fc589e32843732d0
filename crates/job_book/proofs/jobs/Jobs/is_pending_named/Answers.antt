use Rattle.std.proofs.Common.{◌∙◌, ℕ, List, Option, is_some, ap}
use Rattle.std.specs.List.{list_any}
use Rattle.farm_types.specs.Jobs.{JobLists, is_pending_named}
use Rattle.farm_types.specs.Kept.{is_of_pending}
use Rattle.job_index.specs.Names.{number_of}
use Rattle.job_book.proofs.NamedJobs.{if_pending, pending_any, some_if}
use Rattle.job_book.proofs.jobs.Jobs.is_pending_named.Goals as goal

pub returns-in-None : goal.returns-in-None
returns-in-None c =
    let inside = c.self.inside in
    let name = c.args.name.now in
    ap (λ (o : Option ℕ). is_some (if_pending inside.entries.rows o)) (c.in-None.ensures ∙ ap (λ (n : List ℕ). number_of n inside.names.pairs) c.as_str.ensures)
    ∙ pending_any inside.names.pairs 0 inside.entries.next inside.entries.rows c.self.invariant.lists.jobs_rise c.self.invariant.names name ∙ ap (λ (b : JobLists). list_any (is_pending_named name) b.jobs) c.self.view_is

pub returns-in-Some : goal.returns-in-Some
returns-in-Some c =
    let inside = c.self.inside in
    let name = c.args.name.now in
    c.is_pending_in.ensures ∙ some_if (is_of_pending inside.entries.rows c.in-Some.job) c.in-Some.job ∙ ap (λ (o : Option ℕ). is_some (if_pending inside.entries.rows o)) (c.in-Some.ensures ∙ ap (λ (n : List ℕ). number_of n inside.names.pairs) c.as_str.ensures)
    ∙ pending_any inside.names.pairs 0 inside.entries.next inside.entries.rows c.self.invariant.lists.jobs_rise c.self.invariant.names name ∙ ap (λ (b : JobLists). list_any (is_pending_named name) b.jobs) c.self.view_is
