use Rattle.std.proofs.Common.{◌∙◌, ℕ, List, map, ap, arith}
use Rattle.std.specs.List.{slice_get}
use Rattle.std.proofs.lemmas.Option.{slice_get_past}
use Rattle.farm_types.specs.Jobs.{JobLists}
use Rattle.farm_types.proofs.Lists.{slice_get_below}
use Rattle.job_book.specs.Index.{ready_of}
use Rattle.job_book.specs.Inside.{book_of}
use Rattle.job_book.specs.Ready.{jobs_in}
use Rattle.job_index.specs.Keys.{job_of}
use Rattle.job_book.proofs.ReadyLists.{ready_is}
use Rattle.job_book.proofs.jobs.Jobs.ready.Goals as goal

pub returns-clause-listed : goal.returns-clause-listed
returns-clause-listed c within =
    let keeps = c.self.invariant.ready in
    let lists = c.self.inside.ready.items in
    let show = c.args.show in
    let there = slice_get_below lists show (omega (arith, within, keeps.as_many)) in
    let ks = there.0 in
    let is = keeps.keys show ks there.1 in
    c.jobs_in.ensures ∙ ap (λ (xs : List (List ℕ)). jobs_in (slice_get xs c.show.inside.0)) c.as_slice.ensures.value ∙ ap (λ (n : ℕ). jobs_in (slice_get lists n)) c.show.view_is ∙ ap jobs_in there.1 ∙ ap (map job_of) is
    ∙ ready_is (book_of c.self.inside) show (omega (arith, c.self.invariant.lists.next_within)) c.self.invariant.lists.jobs_rise keeps.priorities ∙ ap (λ (b : JobLists). ready_of b show) c.self.view_is

pub returns-clause-past : goal.returns-clause-past
returns-clause-past c past =
    let keeps = c.self.invariant.ready in
    let lists = c.self.inside.ready.items in
    let none = slice_get_past lists c.args.show (omega (arith, past, keeps.as_many)) in
    c.jobs_in.ensures ∙ ap (λ (xs : List (List ℕ)). jobs_in (slice_get xs c.show.inside.0)) c.as_slice.ensures.value ∙ ap (λ (n : ℕ). jobs_in (slice_get lists n)) c.show.view_is ∙ ap jobs_in none
