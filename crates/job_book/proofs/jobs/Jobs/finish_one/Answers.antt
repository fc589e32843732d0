use Rattle.std.proofs.Common.{◌≡◌, ◌∙◌, ◌+◌, ◌≤◌, ◌<◌, ◌&&◌, ℕ, List, Option, Some, eqb, filter, length, map, is_some, sym, ap, subst, arith}
use Rattle.std.specs.List.{find, position_or_len, slice_get}
use Rattle.std.specs.Option.{IfSome}
use Rattle.farm_types.specs.declared.rows.JobRow.{JobRow}
use Rattle.farm_types.specs.declared.limits.TheConstants.{MOST_FINISHED}
use Rattle.farm_types.specs.declared.states.FrameState.TheVariants.{Waiting}
use Rattle.farm_types.specs.Farm.{changed_at, for_some}
use Rattle.farm_types.specs.Finish.{freed_row, is_finished}
use Rattle.farm_types.specs.Jobs.{JobLists}
use Rattle.farm_types.specs.Kept.{is_of_pending}
use Rattle.job_entries.specs.declared.counts.Counts.{Counts}
use Rattle.job_entries.specs.declared.entries.At.{At}
use Rattle.job_index.specs.declared.ready_jobs.TheConstants.{JOB_NUMBERS}
use Rattle.job_book.specs.Book.{count_in, counts_of}
use Rattle.job_entries.specs.Counting.{new_counts}
use Rattle.job_entries.specs.Entries.{counts_in, with_end, layer_position}
use Rattle.job_book.specs.Finished.{KeepsFinishes, can_put, finish_key, has_finish, with_one_finished}
use Rattle.job_book.specs.Inside.{book_of, counts_for}
use Rattle.job_entries.specs.OneJob.{AllJobs}
use Rattle.job_index.specs.Keys.{put_key}
use Rattle.job_book.proofs.FoundAt.{found_at, found_then}
use Rattle.job_book.proofs.EndingLemmas.FinishNumbers.{finished_finishes, number_left}
use Rattle.job_book.proofs.EndingLemmas.FinishedBook.{finished_book}
use Rattle.job_book.proofs.EndingLemmas.FinishedLayers.{finished_layers, finished_waiting}
use Rattle.job_book.proofs.EndingLemmas.FinishedRows.{can_put_then, ended, finished_counts, finished_finished, finished_names, finished_ready, found_then as row_then, is_there, rows_are}
use Rattle.job_book.proofs.EndingLemmas.FreedJob.{freed_is}
use Rattle.job_book.proofs.JobPlaces.{at_place, counts_there}
use Rattle.job_book.proofs.jobs.Jobs.finish_one.Goals as goal

pub unreachable-requires : goal.unreachable-requires
unreachable-requires c =
    let inside = c.self.inside in
    let jobs = inside.entries.rows in
    let slots = inside.slots.items in
    let job = c.args.job in
    let there = is_there jobs job (ap (λ (b : JobLists). is_of_pending b.jobs job) c.self.view_is ∙ c.requires.pending) in
    counts_there job jobs slots (ap (λ (o : Option JobRow). is_some o) there.found)
    (ap (λ (cs : List Counts). slice_get cs (position_or_len (λ (j : JobRow). eqb j.job job) jobs)) (sym c.self.invariant.counts_are)
    ∙ sym (c.in_default.ensures ∙ ap (λ (a : At). counts_in a.job inside.entries) c.at-at.ensures))

pub finish-requires : goal.finish-requires
finish-requires c = found_at c.at-at.result c.self.inside.entries.numbers c.at-at.ensures

pub put_finished-requires-clause-at : goal.put_finished-requires-clause-at
put_finished-requires-clause-at c = found_then c.at-at.result c.self.inside.entries.numbers c.at-at.ensures (ap (λ (a : AllJobs). a.numbers) c.finish.ensures)

pub put_finished-requires-clause-there : goal.put_finished-requires-clause-there
put_finished-requires-clause-there c =
    let inside = c.self.inside in
    let ok = c.self.invariant in
    let jobs = inside.entries.rows in
    let job = c.args.job in
    let pending = ap (λ (b : JobLists). is_of_pending b.jobs job) c.self.view_is ∙ c.requires.pending in
    let there = is_there jobs job pending in
    let most : inside.entries.next ≤ JOB_NUMBERS = omega (arith, ok.lists.next_within) in
    let left = number_left job inside.slots.items jobs inside.entries.next inside.next_finish ok.lists.jobs_rise pending ok.finishes in
    let next : inside.next_finish < JOB_NUMBERS = omega (arith, left, most) in
    let counts = c.in-Some.counts in
    let number : c.at-at.result.job ≡ job = ap (λ (a : At). a.job) c.at-at.ensures in
    let entries = c.finish.ensures ∙ ap (λ (n : ℕ). with_end n inside.next_finish counts inside.entries) number in
    let fits = λ (j : JobRow). has_finish j && can_put (finish_key j) inside.finished in
    ap (λ (n : ℕ). for_some (find (λ (j : JobRow). eqb j.job n) c.finish.new.self.rows) fits) number
    ∙ ap (λ (a : AllJobs). for_some (find (λ (j : JobRow). eqb j.job job) a.rows) fits) entries
    ∙ ap (λ (o : Option JobRow). for_some o fits) (row_then job inside.next_finish counts jobs inside.entries.next most ok.lists.jobs_rise there)
    ∙ can_put_then job inside.next_finish counts jobs inside.entries.next most ok.lists.jobs_rise there inside.finished next ok.finishes.few ok.finished

pub invariant_of-self : goal.invariant_of-self
invariant_of-self c =
    let inside = c.self.inside in
    let ok = c.self.invariant in
    let jobs = inside.entries.rows in
    let layers = inside.entries.layers in
    let slots = inside.slots.items in
    let index = inside.entries.index in
    let job = c.args.job in
    let finish = inside.next_finish in
    let counts = c.in-Some.counts in
    let high = inside.entries.next in
    let rise = ok.lists.jobs_rise in
    let most : high ≤ JOB_NUMBERS = omega (arith, ok.lists.next_within) in
    let test = λ (j : JobRow). eqb j.job job in
    let pending = ap (λ (b : JobLists). is_of_pending b.jobs job) c.self.view_is ∙ c.requires.pending in
    let there = is_there jobs job pending in
    let few = subst (λ (b : JobLists). length (filter is_finished b.jobs) < MOST_FINISHED) (sym c.self.view_is) c.requires.few in
    let left = number_left job slots jobs high finish rise pending ok.finishes in
    let next : finish < JOB_NUMBERS = omega (arith, left, most) in
    let read : slice_get (counts_for jobs slots) (position_or_len test jobs) ≡ Some counts = ap (λ (cs : List Counts). slice_get cs (position_or_len test jobs)) (sym ok.counts_are)
    ∙ sym (c.in-Some.ensures ∙ ap (λ (a : At). counts_in a.job inside.entries) c.at-at.ensures) in
    let are : counts ≡ counts_of job slots = at_place (λ k. counts_of k slots) job jobs counts read in
    let finishes = finished_finishes job slots jobs high finish rise pending ok.finishes few in
    let none : count_in job Waiting slots ≡ 0 = ap (λ (b : JobLists). count_in job Waiting b.slots) c.self.view_is ∙ c.requires.none_waits in
    let number : c.at-at.result.job ≡ job = ap (λ (a : At). a.job) c.at-at.ensures in
    let entries = c.finish.ensures ∙ ap (λ (n : ℕ). with_end n finish counts inside.entries) number in
    let stand = λ (layer : ℕ). c.index_at.ensures layer ∙ ap (λ (n : ℕ). slice_get index (layer_position n layer layers)) number in
    let freed : c.free_layers-free.new.slots.items ≡ map (freed_row job) slots = c.free_layers-free.ensures.slots ∙ freed_is job layers slots index c.index_at.result.now ok.layers stand in
    let last = ended job finish counts jobs high most rise there in
    let found : find test c.finish.new.self.rows ≡ Some last = ap (λ (a : AllJobs). find test a.rows) entries ∙ row_then job finish counts jobs high most rise there in
    let keys : c.put_finished.new.finished ≡ put_key (finish_key last) inside.finished =
    subst (λ (o : Option JobRow). IfSome o (λ (j : JobRow). c.put_finished.new.finished ≡ put_key (finish_key j) inside.finished))
    (ap (λ (n : ℕ). find (λ (j : JobRow). eqb j.job n) c.finish.new.self.rows) number ∙ found) c.put_finished.ensures in
    let finished = finished_finished job finish counts jobs high most rise there inside.finished next ok.finished in
    record {
      lists = rw (entries, freed) (finished_book job finish counts (book_of inside) there ok.lists);
      names = rw entries (finished_names job finish counts inside.names.pairs jobs ok.names);
      finishes = rw entries (subst (λ (js : List JobRow). KeepsFinishes js high (finish + 1)) (sym (rows_are job finish counts slots are jobs)) finishes);
      finished = rw (entries, keys) finished;
      free = c.free_layers-free.ensures.free;
      layers = rw (entries, freed) (finished_layers job layers slots index ok.layers);
      waiting = rw (entries, freed) (finished_waiting job layers slots index ok.layers none ok.waiting);
      ready = rw (entries, freed) (finished_ready job finish counts jobs slots inside.ready.items none ok.ready);
      counts_are =
          rw (entries, freed) (ap (λ (cs : List Counts). changed_at cs (position_or_len test jobs) (λ _. new_counts 0)) ok.counts_are ∙ finished_counts job finish counts jobs high rise slots);
      slots_capacity = rw c.free_layers-free.ensures.capacity ok.slots_capacity;
    }

pub returns : goal.returns
returns c =
    let inside = c.self.inside in
    let ok = c.self.invariant in
    let jobs = inside.entries.rows in
    let layers = inside.entries.layers in
    let slots = inside.slots.items in
    let index = inside.entries.index in
    let job = c.args.job in
    let finish = inside.next_finish in
    let counts = c.in-Some.counts in
    let read : slice_get (counts_for jobs slots) (position_or_len (λ (j : JobRow). eqb j.job job) jobs) ≡ Some counts =
    ap (λ (cs : List Counts). slice_get cs (position_or_len (λ (j : JobRow). eqb j.job job) jobs)) (sym ok.counts_are)
    ∙ sym (c.in-Some.ensures ∙ ap (λ (a : At). counts_in a.job inside.entries) c.at-at.ensures) in
    let are : counts ≡ counts_of job slots = at_place (λ k. counts_of k slots) job jobs counts read in
    let number : c.at-at.result.job ≡ job = ap (λ (a : At). a.job) c.at-at.ensures in
    let entries = c.finish.ensures ∙ ap (λ (n : ℕ). with_end n finish counts inside.entries) number in
    let stand = λ (layer : ℕ). c.index_at.ensures layer ∙ ap (λ (n : ℕ). slice_get index (layer_position n layer layers)) number in
    let rows = ap (λ (a : AllJobs). a.rows) entries ∙ rows_are job finish counts slots are jobs in
    let left = ap (λ (a : AllJobs). a.layers) entries in
    let next = ap (λ (a : AllJobs). a.next) entries in
    let freed : c.free_layers-free.new.slots.items ≡ map (freed_row job) slots = c.free_layers-free.ensures.slots ∙ freed_is job layers slots index c.index_at.result.now ok.layers stand in
    (λ i. record { jobs = rows i; layers = left i; slots = freed i; next_job = next i; next_finish = finish + 1 }) ∙ ap (with_one_finished job) c.self.view_is
