use Rattle.std.proofs.Common.{◌≡◌, ◌∙◌, ◌<◌, ◌≤◌, ℕ, List, Option, map, filter, length, eqb, not, true, refl, sym, ap, subst, arith}
use Rattle.std.specs.List.{find}
use Rattle.std.proofs.lemmas.Option.{slice_get_read}
use Rattle.farm_types.specs.declared.limits.TheConstants.{MOST_FINISHED}
use Rattle.farm_types.specs.declared.rows.JobRow.{JobRow}
use Rattle.farm_types.specs.Finish.{is_finished}
use Rattle.farm_types.specs.Jobs.{JobLists}
use Rattle.farm_types.specs.Kept.{is_of_pending}
use Rattle.job_index.specs.declared.ready_jobs.TheConstants.{JOB_NUMBERS}
use Rattle.job_book.specs.Book.{has_job, without_job}
use Rattle.job_book.specs.Finished.{finished_of, first_of_full, without_done}
use Rattle.job_book.specs.Inside.{book_of}
use Rattle.job_index.specs.Keys.{job_of}
use Rattle.job_book.proofs.EndingLemmas.CutJobs.{can_go}
use Rattle.job_book.proofs.EndingLemmas.FinishNumbers.{first_full, none_full, one_leaves, pending_left}
use Rattle.job_book.proofs.EndingLemmas.FinishOrder.{as_many}
use Rattle.job_book.proofs.EndingLemmas.LeftJobs.{done_goes, done_idle, done_there}
use Rattle.job_book.proofs.jobs.Jobs.leave_first.Goals as goal

pub returns-then-finished-clause-left : goal.returns-then-finished-clause-left
returns-then-finished-clause-left c =
    let inside = c.self.inside in
    let jobs = inside.entries.rows in
    let order : finished_of jobs ≡ c.jobs-finished.result.now = sym (c.jobs-finished.ensures ∙ ap (map job_of) c.self.invariant.finished.keys_are) in
    let none = ap first_of_full order ∙ none_full c.jobs-finished.result.now (omega (arith, c.if-finished.true)) in
    sym c.self.view_is ∙ (sym (ap (λ (o : Option ℕ). record (book_of inside) { jobs = without_job o jobs }) none)
    ∙ ap (λ (b : JobLists). record b { jobs = without_job (first_of_full (finished_of b.jobs)) b.jobs }) c.self.view_is)

pub returns-then-finished-clause-few : goal.returns-then-finished-clause-few
returns-then-finished-clause-few c =
    let inside = c.self.inside in
    let jobs = inside.entries.rows in
    let order : finished_of jobs ≡ c.jobs-finished.result.now = sym (c.jobs-finished.ensures ∙ ap (map job_of) c.self.invariant.finished.keys_are) in
    let few : length (filter is_finished jobs) < MOST_FINISHED = omega (arith, c.if-finished.true, as_many jobs, ap (λ (ns : List ℕ). length ns) order) in
    subst (λ (b : JobLists). length (filter is_finished b.jobs) < MOST_FINISHED) c.self.view_is few

pub leave-requires : goal.leave-requires
leave-requires c =
    let inside = c.self.inside in
    let ok = c.self.invariant in
    let first = c.index-finished-0.result in
    let most : inside.entries.next ≤ JOB_NUMBERS = omega (arith, ok.lists.next_within) in
    let more : MOST_FINISHED ≤ length c.jobs-finished.result.now = omega (arith, c.if-finished.false) in
    sym (ap (λ (b : JobLists). has_job b first) c.self.view_is)
    ∙ done_there (find (λ (j : JobRow). eqb j.job first) inside.entries.rows)
    (can_go inside.entries.rows inside.entries.next most ok.lists.jobs_rise inside.finished c.jobs-finished.result.now ok.finished.keys_are c.jobs-finished.ensures (omega (arith, more)) first c.index-finished-0.is)

pub returns-clause-left : goal.returns-clause-left
returns-clause-left c =
    let inside = c.self.inside in
    let jobs = inside.entries.rows in
    let first = c.index-finished-0.result in
    let numbers = c.jobs-finished.result.now in
    let more : MOST_FINISHED ≤ length numbers = omega (arith, c.if-finished.false) in
    let order : finished_of jobs ≡ numbers = sym (c.jobs-finished.ensures ∙ ap (map job_of) c.self.invariant.finished.keys_are) in
    let at = slice_get_read numbers (length numbers) 0 first refl (omega (arith, more)) c.index-finished-0.is in
    let leaves = ap first_of_full order ∙ first_full numbers first more at in
    let most : inside.entries.next ≤ JOB_NUMBERS = omega (arith, c.self.invariant.lists.next_within) in
    let there = can_go jobs inside.entries.next most c.self.invariant.lists.jobs_rise inside.finished numbers c.self.invariant.finished.keys_are c.jobs-finished.ensures (omega (arith, more)) first c.index-finished-0.is in
    let goes = done_goes first jobs (done_idle (find (λ (j : JobRow). eqb j.job first) jobs) there) in
    c.leave.ensures ∙ (sym (ap (λ (b : JobLists). record b { jobs = without_done first b.jobs }) c.self.view_is)
    ∙ ap (λ (js : List JobRow). record (book_of inside) { jobs = js }) goes
    ∙ (sym (ap (λ (o : Option ℕ). record (book_of inside) { jobs = without_job o jobs }) leaves)
    ∙ ap (λ (b : JobLists). record b { jobs = without_job (first_of_full (finished_of b.jobs)) b.jobs }) c.self.view_is))

pub returns-clause-few : goal.returns-clause-few
returns-clause-few c =
    let ok = c.self.invariant in
    let jobs = c.self.inside.entries.rows in
    let first = c.index-finished-0.result in
    let most : c.self.inside.entries.next ≤ JOB_NUMBERS = omega (arith, ok.lists.next_within) in
    let more : MOST_FINISHED ≤ length c.jobs-finished.result.now = omega (arith, c.if-finished.false) in
    let there = can_go jobs c.self.inside.entries.next most ok.lists.jobs_rise c.self.inside.finished c.jobs-finished.result.now ok.finished.keys_are c.jobs-finished.ensures (omega (arith, more)) first c.index-finished-0.is in
    let now = ap (λ (b : JobLists). b.jobs) c.leave.ensures ∙ sym (ap (λ (b : JobLists). without_done first b.jobs) c.self.view_is) ∙ done_goes first jobs (done_idle (find (λ (j : JobRow). eqb j.job first) jobs) there) in
    let few : length (filter is_finished (filter (λ (j : JobRow). not (eqb j.job first)) jobs)) < MOST_FINISHED = omega (arith, one_leaves first jobs there, ok.finishes.few) in
    subst (λ (js : List JobRow). length (filter is_finished js) < MOST_FINISHED) (sym now) few

pub returns-clause-pending : goal.returns-clause-pending
returns-clause-pending c =
    let ok = c.self.invariant in
    let jobs = c.self.inside.entries.rows in
    let first = c.index-finished-0.result in
    let most : c.self.inside.entries.next ≤ JOB_NUMBERS = omega (arith, ok.lists.next_within) in
    let more : MOST_FINISHED ≤ length c.jobs-finished.result.now = omega (arith, c.if-finished.false) in
    let there = can_go jobs c.self.inside.entries.next most ok.lists.jobs_rise c.self.inside.finished c.jobs-finished.result.now ok.finished.keys_are c.jobs-finished.ensures (omega (arith, more)) first c.index-finished-0.is in
    let now = ap (λ (b : JobLists). b.jobs) c.leave.ensures ∙ sym (ap (λ (b : JobLists). without_done first b.jobs) c.self.view_is) ∙ done_goes first jobs (done_idle (find (λ (j : JobRow). eqb j.job first) jobs) there) in
    λ job pending.
    subst (λ (js : List JobRow). is_of_pending js job ≡ true) (sym now)
    (pending_left first jobs there job (subst (λ (b : JobLists). is_of_pending b.jobs job ≡ true) (sym c.self.view_is) pending))
