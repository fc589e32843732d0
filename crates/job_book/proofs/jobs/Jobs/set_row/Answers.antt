use Rattle.std.proofs.Common.{◌≡◌, ◌∙◌, ◌<◌, ℕ, Bool, length, List, Option, Some, IfSome, eqb, refl, sym, ap, subst, arith}
use Rattle.std.specs.List.{find, slice_get, slice_set, position_or_len}
use Rattle.std.proofs.lemmas.List.Folds.{find_at}
use Rattle.std.proofs.lemmas.Option.{slice_get_within}
use Rattle.farm_types.specs.declared.rows.JobRow.{JobRow}
use Rattle.farm_types.specs.Booking.{is_waiting}
use Rattle.farm_types.specs.Farm.{changed_at}
use Rattle.farm_types.specs.Jobs.{JobLists}
use Rattle.farm_types.proofs.Changed.{changed_at_is}
use Rattle.farm_types.proofs.Lists.{found_is}
use Rattle.std.proofs.lemmas.Bool.{eqb-true}
use Rattle.job_entries.specs.declared.counts.Counts.{Counts}
use Rattle.job_entries.specs.declared.entries.At.{At}
use Rattle.job_index.specs.declared.limits.TheConstants.{MOST_JOBS}
use Rattle.job_entries.specs.Counting.{CanMove, moved}
use Rattle.job_entries.specs.Entries.{counts_in, with_moved_in, layer_position}
use Rattle.job_book.specs.Inside.{book_of, counts_for}
use Rattle.job_index.specs.Places.{marked}
use Rattle.job_entries.specs.OneJob.{AllJobs}
use Rattle.job_book.specs.Ready.{CanChange, changed_ready}
use Rattle.job_book.proofs.FoundAt.{found_at, found_then}
use Rattle.job_book.proofs.InState.{begun_here, can_move, counts_in_state, in_state, in_state_book, in_state_free, with_row}
use Rattle.job_book.proofs.LayerSlots.{kept_layers, marked_waiting}
use Rattle.job_book.proofs.PlacementLemmas.Placed.{rows_few}
use Rattle.job_book.proofs.ReadyKept.{can_change, in_state_ready, said}
use Rattle.job_book.proofs.jobs.Jobs.set_row.Goals as goal

pub recount-requires-clause-at : goal.recount-requires-clause-at
recount-requires-clause-at c = found_at c.at-at.result c.self.inside.entries.numbers c.at-at.ensures

pub recount-requires-clause-can : goal.recount-requires-clause-can
recount-requires-clause-can c =
    let r = in_state (book_of c.self.inside) _ c.args.slot _ c.args.row.now _ _ c.self.view_is (sym c.in-Some.ensures) c.in-Some-frame.is c.in-Some-frame-2.is c.requires in
    let jobs = c.self.inside.entries.rows in
    let all = c.self.inside.entries in
    let state = c.in-Some-frame-2.frame.state in
    subst (λ (a : At). IfSome (counts_in a.job all) (CanMove c.in-Some-frame.was.state state)) (sym c.at-at.ensures)
    (can_move c.self.inside.slots.items c.args.slot c.args.row.now c.in-Some-frame.was c.in-Some-frame-2.frame.state r jobs c.self.inside.entries.counts (position_or_len (λ (j : JobRow). eqb j.job c.in-Some-frame.was.job) jobs)
    c.self.invariant.counts_are refl c.self.invariant.lists.slot_count)

pub has_waiting-has-requires : goal.has_waiting-has-requires
has_waiting-has-requires c =
    found_then c.at-at.result c.self.inside.entries.numbers c.at-at.ensures (ap (λ (a : AllJobs). a.numbers) c.recount.ensures)

pub change_ready-requires-clause-at : goal.change_ready-requires-clause-at
change_ready-requires-clause-at c =
    found_then c.at-at.result c.self.inside.entries.numbers c.at-at.ensures (ap (λ (a : AllJobs). a.numbers) c.recount.ensures)

pub mark-requires : goal.mark-requires
mark-requires c =
    found_then c.at-at.result c.self.inside.entries.numbers c.at-at.ensures (ap (λ (a : AllJobs). a.numbers) c.recount.ensures)

pub change_ready-requires-clause-can : goal.change_ready-requires-clause-can
change_ready-requires-clause-can c =
    let inside = c.self.inside in
    let ok = c.self.invariant in
    let jobs = inside.entries.rows in
    let was = c.in-Some-frame.was in
    let test = λ (j : JobRow). eqb j.job was.job in
    let place = position_or_len test jobs in
    let r = in_state (book_of c.self.inside) _ c.args.slot _ c.args.row.now _ _ c.self.view_is (sym c.in-Some.ensures) c.in-Some-frame.is c.in-Some-frame-2.is c.requires in
    let begun = λ (j : JobRow) (at : slice_get jobs place ≡ Some j).
    begun_here inside.slots.items c.args.slot c.args.row.now was c.in-Some-frame-2.frame.state r jobs place j ok.lists.slots_had at (eqb-true j.job was.job (found_is test jobs j (find_at test jobs ∙ at))) in
    let few : length jobs < MOST_JOBS = omega (arith, rows_few inside.slots.items jobs ok.lists.slots_had, ok.lists.jobs_fit, ok.finishes.few) in
    let had = c.has_waiting-had.ensures ∙ ap (λ (a : At). said (counts_in a.job inside.entries)) c.at-at.ensures in
    let rows = ap (λ (a : AllJobs). find (λ (j : JobRow). eqb j.job c.at-at.result.job) a.rows) c.recount.ensures ∙ ap (λ (a : At). find (λ (j : JobRow). eqb j.job a.job) jobs) c.at-at.ensures in
    subst (λ (o : Option JobRow). CanChange c.has_waiting-had.result c.has_waiting-has.result inside.ready.items o) (sym (rows ∙ find_at test jobs))
    (can_change jobs inside.entries.next (omega (arith, ok.lists.next_within)) ok.lists.jobs_rise few inside.ready.items
    inside.slots.items ok.ready inside.entries.counts ok.counts_are place begun c.has_waiting-had.result c.has_waiting-has.result had)

pub set_row-requires : goal.set_row-requires
set_row-requires c =
    slice_get_within c.self.inside.slots.items c.args.slot c.in-Some.old (ap (λ (b : JobLists). slice_get b.slots c.args.slot) c.self.view_is ∙ sym c.in-Some.ensures)

pub invariant_of-self : goal.invariant_of-self
invariant_of-self c =
    let inside = c.self.inside in
    let ok = c.self.invariant in
    let slots = inside.slots.items in
    let jobs = inside.entries.rows in
    let layers = inside.entries.layers in
    let index = inside.entries.index in
    let row = c.args.row.now in
    let was = c.in-Some-frame.was in
    let state = c.in-Some-frame-2.frame.state in
    let test = λ (j : JobRow). eqb j.job was.job in
    let place = position_or_len test jobs in
    let r = in_state (book_of c.self.inside) _ c.args.slot _ c.args.row.now _ _ c.self.view_is (sym c.in-Some.ensures) c.in-Some-frame.is c.in-Some-frame-2.is c.requires in
    let new : c.set_row.new.slots.items ≡ with_row slots c.args.slot row = c.set_row.ensures.items ∙ sym (changed_at_is slots c.args.slot (λ _. row) r.old r.at) in
    let counted = counts_in_state slots c.args.slot row was state r jobs inside.entries.next ok.lists.jobs_rise in
    let recounted : changed_at inside.entries.counts place (moved was.state state) ≡ counts_for jobs (with_row slots c.args.slot row) =
    ap (λ (cs : List Counts). changed_at cs place (moved was.state state)) ok.counts_are ∙ sym counted in
    let marks = changed_at index (layer_position was.job was.layer layers) (marked was.position (is_waiting state)) in
    let job : c.at-at.result.job ≡ was.job = ap (λ (a : At). a.job) c.at-at.ensures in
    let recount : c.recount.new.self ≡ with_moved_in was.job was.state state inside.entries = c.recount.ensures ∙ ap (λ (n : ℕ). with_moved_in n was.state state inside.entries) job in
    let entries : c.mark.new.self ≡ record inside.entries { counts = changed_at inside.entries.counts place (moved was.state state); index = marks } =
    c.mark.ensures ∙ ap (λ (n : ℕ). record c.recount.new.self { index = changed_at c.recount.new.self.index (layer_position n was.layer c.recount.new.self.layers) (marked was.position c.is_waiting.result) }) job
    ∙ ap (λ (a : AllJobs). record a { index = changed_at a.index (layer_position was.job was.layer a.layers) (marked was.position c.is_waiting.result) }) recount
    ∙ ap (λ (w : Bool). record inside.entries { counts = changed_at inside.entries.counts place (moved was.state state); index = changed_at index (layer_position was.job was.layer layers) (marked was.position w) }) c.is_waiting.ensures in
    let had = c.has_waiting-had.ensures ∙ ap (λ (n : ℕ). said (counts_in n inside.entries)) job in
    let has = c.has_waiting-has.ensures ∙ ap (λ (n : ℕ). said (counts_in n c.recount.new.self)) job ∙ ap (λ (a : AllJobs). said (counts_in was.job a)) recount in
    let begun = λ (j : JobRow) (at : slice_get jobs place ≡ Some j).
    begun_here slots c.args.slot row was state r jobs place j ok.lists.slots_had at (eqb-true j.job was.job (found_is test jobs j (find_at test jobs ∙ at))) in
    let few : length jobs < MOST_JOBS = omega (arith, rows_few slots jobs ok.lists.slots_had, ok.lists.jobs_fit, ok.finishes.few) in
    let ready = in_state_ready jobs inside.entries.next (omega (arith, ok.lists.next_within)) ok.lists.jobs_rise few inside.ready.items
    slots ok.ready inside.entries.counts ok.counts_are place begun c.has_waiting-had.result c.has_waiting-has.result had
    c.args.slot row was state r refl (changed_at inside.entries.counts place (moved was.state state)) recounted has in
    let ready_is = c.change_ready.ensures ∙ ap (changed_ready c.has_waiting-had.result c.has_waiting-has.result inside.ready.items) (ap (λ (n : ℕ). find (λ (j : JobRow). eqb j.job n) c.recount.new.self.rows) job ∙ ap (λ (a : AllJobs). find test a.rows) recount ∙ find_at test jobs) in
    record {
      lists = rw (entries, new) (in_state_book (book_of inside) c.args.slot row was state r ok.lists);
      names = rw entries ok.names;
      finishes = rw entries ok.finishes;
      finished = rw entries ok.finished;
      free = rw new (in_state_free inside.free inside.lowest slots c.args.slot row was state r ok.free);
      layers = rw (entries, new) (kept_layers layers slots index _ ok.lists.layers_rise ok.layers ok.waiting c.args.slot row was state r);
      waiting = rw (entries, new) (marked_waiting layers slots index _ ok.lists.layers_rise ok.layers ok.waiting c.args.slot row was state r);
      ready = rw (entries, new, ready_is) ready;
      counts_are = rw (entries, new) recounted;
      slots_capacity = rw c.set_row.ensures.capacity ok.slots_capacity;
    }

pub returns : goal.returns
returns c =
    let inside = c.self.inside in
    let was = c.in-Some-frame.was in
    let rows_are = ap (λ (a : AllJobs). a.rows) c.mark.ensures ∙ ap (λ (a : AllJobs). a.rows) c.recount.ensures in
    let layers_are = ap (λ (a : AllJobs). a.layers) c.mark.ensures ∙ ap (λ (a : AllJobs). a.layers) c.recount.ensures in
    let next_is = ap (λ (a : AllJobs). a.next) c.mark.ensures ∙ ap (λ (a : AllJobs). a.next) c.recount.ensures in
    (λ i. record { jobs = rows_are i; layers = layers_are i; slots = c.set_row.ensures.items i; next_job = next_is i; next_finish = inside.next_finish })
    ∙ ap (λ (b : JobLists). record b { slots = slice_set b.slots c.args.slot c.args.row.now }) c.self.view_is
