use Rattle.std.proofs.Common.{◌≡◌, ◌∙◌, ℕ, List, Some, None, sym, ap}
use Rattle.farm_types.specs.declared.rows.JobRow.{JobRow}
use Rattle.farm_types.specs.Jobs.{JobLists, without_finished}
use Rattle.job_book.specs.Book.{has_job}
use Rattle.job_book.specs.Finished.{without_done}
use Rattle.job_book.specs.Inside.{book_of}
use Rattle.job_book.specs.Names.{as_list}
use Rattle.job_index.specs.Names.{number_of}
use Rattle.job_book.proofs.EndingLemmas.LeftJobs.{is_named_there, named_leaves, none_goes}
use Rattle.job_book.proofs.jobs.Jobs.leave_named.Goals as goal

pub returns-in_default : goal.returns-in_default
returns-in_default c =
    let inside = c.self.inside in
    let ok = c.self.invariant in
    let jobs = inside.entries.rows in
    let name = c.args.name.now in
    let none : number_of name inside.names.pairs ≡ None = sym (c.in_default.ensures ∙ ap (λ (n : List ℕ). number_of n inside.names.pairs) c.as_str.ensures) in
    sym c.self.view_is ∙ ap (λ (js : List JobRow). record (book_of inside) { jobs = js }) (sym (none_goes name jobs (ok.names.named name ∙ ap as_list none))) ∙ ap (λ (b : JobLists). record b { jobs = without_finished name b.jobs }) c.self.view_is

pub leave-requires : goal.leave-requires
leave-requires c =
    let inside = c.self.inside in
    let ok = c.self.invariant in
    let jobs = inside.entries.rows in
    let name = c.args.name.now in
    let at : number_of name inside.names.pairs ≡ Some c.in-Some.job = sym (c.in-Some.ensures ∙ ap (λ (n : List ℕ). number_of n inside.names.pairs) c.as_str.ensures) in
    let is = ok.names.named name ∙ ap as_list at in
    sym (ap (λ (b : JobLists). has_job b c.in-Some.job) c.self.view_is) ∙ is_named_there name jobs inside.entries.next ok.lists.jobs_rise c.in-Some.job is

pub returns : goal.returns
returns c =
    let inside = c.self.inside in
    let ok = c.self.invariant in
    let jobs = inside.entries.rows in
    let name = c.args.name.now in
    let at : number_of name inside.names.pairs ≡ Some c.in-Some.job = sym (c.in-Some.ensures ∙ ap (λ (n : List ℕ). number_of n inside.names.pairs) c.as_str.ensures) in
    let is = ok.names.named name ∙ ap as_list at in
    c.leave.ensures ∙ sym (ap (λ (b : JobLists). record b { jobs = without_done c.in-Some.job b.jobs }) c.self.view_is)
    ∙ ap (λ (js : List JobRow). record (book_of inside) { jobs = js }) (named_leaves name jobs inside.entries.next ok.lists.jobs_rise c.in-Some.job is) ∙ ap (λ (b : JobLists). record b { jobs = without_finished name b.jobs }) c.self.view_is
