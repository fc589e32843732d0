use Rattle.std.proofs.Common.{◌≡◌, ◌∙◌, ◌+◌, ◌≤◌, ℕ, List, Option, Some, None, cond, eqb, not, filter, is_some, length, true, false, sym, ap, subst, arith}
use Rattle.std.specs.List.{find, list_any, slice_get, position_or_len}
use Rattle.std.specs.Str.{bytes_eq}
use Rattle.std.proofs.lemmas.Bool.{eqb-true, false≢true}
use Rattle.std.proofs.lemmas.List.Folds.{find_at}
use Rattle.farm_types.specs.declared.rows.JobRow.{JobRow}
use Rattle.farm_types.specs.declared.rows.LayerRow.{LayerRow}
use Rattle.farm_types.specs.Booking.{is_pending}
use Rattle.farm_types.specs.Farm.{for_some}
use Rattle.farm_types.specs.Finish.{is_finished}
use Rattle.farm_types.specs.Jobs.{JobLists}
use Rattle.farm_types.specs.Kept.{is_of_pending, is_pending_job}
use Rattle.farm_types.proofs.Lists.{find_passes, found_is}
use Rattle.job_entries.specs.declared.counts.Counts.{Counts}
use Rattle.job_entries.specs.declared.entries.At.{At}
use Rattle.job_index.specs.declared.ready_jobs.TheConstants.{JOB_NUMBERS}
use Rattle.job_book.specs.Book.{has_job}
use Rattle.job_entries.specs.Entries.{beside, without_row}
use Rattle.job_book.specs.Finished.{KeepsFinished, finish_key, has_finish, without_done}
use Rattle.job_book.specs.Inside.{book_of, has_layers_if}
use Rattle.job_book.specs.Names.{KeepsNames}
use Rattle.job_index.specs.Names.{number_of}
use Rattle.job_entries.specs.OneJob.{AllJobs}
use Rattle.job_book.specs.Ready.{KeepsReady}
use Rattle.job_index.specs.Keys.{drop_key}
use Rattle.job_book.proofs.EndingLemmas.FinishNumbers.{left_finishes}
use Rattle.job_book.proofs.FoundAt.{found_at}
use Rattle.job_book.proofs.EndingLemmas.LeftJobs.{book_left, counts_left, done_goes, finished_left, names_left, not_true, pending_remains, ready_left, remains}
use Rattle.job_book.proofs.jobs.Jobs.leave.Goals as goal

pub finish_key-requires : goal.finish_key-requires
finish_key-requires c =
    let inside = c.self.inside in
    let ok = c.self.invariant in
    let jobs = inside.entries.rows in
    let job = c.args.job in
    let test = λ (k : JobRow). eqb k.job job in
    let j = c.in-Some.row.now in
    let found : find test jobs ≡ Some j = sym (c.in-Some.ensures ∙ ap (λ (a : At). find (λ (k : JobRow). eqb k.job a.job) jobs) c.at-at.ensures) in
    let number : j.job ≡ job = eqb-true j.job job (found_is test jobs j found) in
    let idle : is_pending j.state ≡ false = sym c.is_pending.ensures ∙ c.if-is_pending.false in
    let done : is_finished j ≡ true = ap not idle in
    find_passes test has_finish jobs j ok.finished.within found

pub leave-requires-clause-none : goal.leave-requires-clause-none
leave-requires-clause-none c =
    let inside = c.self.inside in
    let ok = c.self.invariant in
    let jobs = inside.entries.rows in
    let job = c.args.job in
    let test = λ (k : JobRow). eqb k.job job in
    let j = c.in-Some.row.now in
    let found : find test jobs ≡ Some j = sym (c.in-Some.ensures ∙ ap (λ (a : At). find (λ (k : JobRow). eqb k.job a.job) jobs) c.at-at.ensures) in
    let number : j.job ≡ job = eqb-true j.job job (found_is test jobs j found) in
    let idle : is_pending j.state ≡ false = sym c.is_pending.ensures ∙ c.if-is_pending.false in
    let done : is_finished j ≡ true = ap not idle in
    let owned = find_passes test (has_layers_if inside.entries.layers) jobs j ok.lists.layers_owned found in
    let none : not (list_any (λ (l : LayerRow). eqb l.job j.job) inside.entries.layers) ≡ true = rw idle at owned in
    ap (λ (n : ℕ). list_any (λ (l : LayerRow). eqb l.job n) inside.entries.layers) (ap (λ (a : At). a.job) c.at-at.ensures ∙ sym number) ∙ not_true _ none

pub invariant_of-self : goal.invariant_of-self
invariant_of-self c =
    let inside = c.self.inside in
    let ok = c.self.invariant in
    let jobs = inside.entries.rows in
    let job = c.args.job in
    let test = λ (k : JobRow). eqb k.job job in
    let j = c.in-Some.row.now in
    let found : find test jobs ≡ Some j = sym (c.in-Some.ensures ∙ ap (λ (a : At). find (λ (k : JobRow). eqb k.job a.job) jobs) c.at-at.ensures) in
    let number : j.job ≡ job = eqb-true j.job job (found_is test jobs j found) in
    let idle : is_pending j.state ≡ false = sym c.is_pending.ensures ∙ c.if-is_pending.false in
    let done : is_finished j ≡ true = ap not idle in
    let at : slice_get jobs (position_or_len test jobs) ≡ Some j = sym (find_at test jobs) ∙ found in
    let high = inside.entries.next in
    let rise = ok.lists.jobs_rise in
    let most : high ≤ JOB_NUMBERS = omega (arith, ok.lists.next_within) in
    let entries = c.leave.ensures ∙ ap (λ (a : At). without_row a.job inside.entries) c.at-at.ensures in
    let names_are = λ (other : List ℕ). c.remove.ensures.others other ∙ ap (λ (n : List ℕ). cond (bytes_eq n other) None (number_of other inside.names.pairs)) c.as_str.ensures in
    let fewer : length c.remove.new.self.pairs + cond (is_some (number_of j.name inside.names.pairs)) 1 0 ≤ length inside.names.pairs =
    subst (λ (n : List ℕ). length c.remove.new.self.pairs + cond (is_some (number_of n inside.names.pairs)) 1 0 ≤ length inside.names.pairs) c.as_str.ensures c.remove.ensures.count in
    let taken : c.take.new.self ≡ drop_key (finish_key j) inside.finished = c.take.ensures ∙ ap (λ (k : ℕ). drop_key k inside.finished) c.finish_key.ensures in
    let names = names_left jobs high rise (position_or_len test jobs) j at inside.names.pairs c.remove.new.self.pairs ok.names names_are fewer in
    let finished = finished_left j done jobs high (position_or_len test jobs) inside.finished most rise at ok.finished in
    let ready = ready_left jobs high rise (position_or_len test jobs) j at idle inside.slots.items inside.ready.items ok.ready in
    record {
      lists = rw entries (book_left job (book_of inside) ok.lists);
      names = rw entries (subst (λ (n : ℕ). KeepsNames c.remove.new.self.pairs (filter (remains n) jobs)) number names);
      finishes = rw entries (left_finishes job jobs high inside.next_finish ok.finishes);
      finished = rw (entries, taken) (subst (λ (n : ℕ). KeepsFinished (filter (remains n) jobs) (drop_key (finish_key j) inside.finished)) number finished);
      free = ok.free;
      layers = rw entries ok.layers;
      waiting = rw entries ok.waiting;
      ready = rw entries (subst (λ (n : ℕ). KeepsReady (filter (remains n) jobs) inside.slots.items inside.ready.items) number ready);
      counts_are = rw entries (ap (λ (cs : List Counts). beside (remains job) jobs cs) ok.counts_are ∙ counts_left job jobs inside.slots.items);
      slots_capacity = ok.slots_capacity;
    }

pub returns : goal.returns
returns c =
    let inside = c.self.inside in
    let jobs = inside.entries.rows in
    let job = c.args.job in
    let j = c.in-Some.row.now in
    let found : find (λ (k : JobRow). eqb k.job job) jobs ≡ Some j = sym (c.in-Some.ensures ∙ ap (λ (a : At). find (λ (k : JobRow). eqb k.job a.job) jobs) c.at-at.ensures) in
    let idle : is_of_pending jobs job ≡ false = ap (λ (o : Option JobRow). for_some o is_pending_job) found ∙ sym c.is_pending.ensures ∙ c.if-is_pending.false in
    let entries = c.leave.ensures ∙ ap (λ (a : At). without_row a.job inside.entries) c.at-at.ensures in
    ap (λ (a : AllJobs). record { jobs = a.rows; layers = a.layers; slots = inside.slots.items; next_job = a.next; next_finish = inside.next_finish }) entries
    ∙ ap (λ (js : List JobRow). record (book_of inside) { jobs = js }) (sym (done_goes job jobs idle))
    ∙ ap (λ (b : JobLists). record b { jobs = without_done job b.jobs }) c.self.view_is

pub unreachable-requires : goal.unreachable-requires
unreachable-requires c =
    let jobs = c.self.inside.entries.rows in
    let job = c.args.job in
    let none : find (λ (k : JobRow). eqb k.job job) jobs ≡ None = sym (c.in_default.ensures ∙ ap (λ (a : At). find (λ (k : JobRow). eqb k.job a.job) jobs) c.at-at.ensures) in
    false≢true (sym (ap (λ (o : Option JobRow). is_some o) none) ∙ ap (λ (b : JobLists). has_job b job) c.self.view_is ∙ c.requires)

pub returns-then-is_pending : goal.returns-then-is_pending
returns-then-is_pending c =
    let inside = c.self.inside in
    let jobs = inside.entries.rows in
    let job = c.args.job in
    let j = c.in-Some.row.now in
    let found : find (λ (k : JobRow). eqb k.job job) jobs ≡ Some j = sym (c.in-Some.ensures ∙ ap (λ (a : At). find (λ (k : JobRow). eqb k.job a.job) jobs) c.at-at.ensures) in
    let busy : is_of_pending jobs job ≡ true = ap (λ (o : Option JobRow). for_some o is_pending_job) found ∙ sym c.is_pending.ensures ∙ c.if-is_pending.true in
    sym c.self.view_is ∙ ap (λ (js : List JobRow). record (book_of inside) { jobs = js }) (sym (pending_remains job jobs busy))
    ∙ ap (λ (b : JobLists). record b { jobs = without_done job b.jobs }) c.self.view_is

pub row_at-requires : goal.row_at-requires
row_at-requires c = found_at c.at-at.result c.self.inside.entries.numbers c.at-at.ensures

pub leave-requires-clause-at : goal.leave-requires-clause-at
leave-requires-clause-at c = found_at c.at-at.result c.self.inside.entries.numbers c.at-at.ensures
