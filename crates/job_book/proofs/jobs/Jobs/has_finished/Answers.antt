use Rattle.std.proofs.Common.{◌≡◌, ◌∙◌, None, Some, not, sym, ap}
use Rattle.std.specs.List.{list_any}
use Rattle.farm_types.specs.Jobs.{JobLists, is_finished_named}
use Rattle.job_book.specs.Names.{as_list}
use Rattle.job_index.specs.Names.{number_of}
use Rattle.job_book.proofs.EndingLemmas.LeftJobs.{has_finished_is, none_finished_named}
use Rattle.job_book.proofs.jobs.Jobs.has_finished.Goals as goal

pub returns-in-None : goal.returns-in-None
returns-in-None c =
    let inside = c.self.inside in
    let ok = c.self.invariant in
    let name = c.args.name.now in
    let at : number_of name inside.names.pairs ≡ None = sym c.in-None.ensures in
    none_finished_named name inside.entries.rows (ok.names.named name ∙ ap as_list at) ∙ ap (λ (b : JobLists). list_any (is_finished_named name) b.jobs) c.self.view_is

pub returns-in-Some : goal.returns-in-Some
returns-in-Some c =
    let inside = c.self.inside in
    let ok = c.self.invariant in
    let name = c.args.name.now in
    let at : number_of name inside.names.pairs ≡ Some c.in-Some.job = sym c.in-Some.ensures in
    ap not c.is_pending_in.ensures ∙ has_finished_is name inside.entries.rows inside.entries.next ok.lists.jobs_rise c.in-Some.job (ok.names.named name ∙ ap as_list at)
    ∙ ap (λ (b : JobLists). list_any (is_finished_named name) b.jobs) c.self.view_is
