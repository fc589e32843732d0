use Rattle.std.proofs.Common.{◌≡◌, ℕ, ◌<◌, ◌+◌, ◌-◌, ◌∙◌, ◌∷◌, [], ◌++◌, List, drop, length, map, string_bytes, Option, None, Some, cond, sym, ap, subst, arith}
use Rattle.std.specs.List.{list_any}
use Rattle.std.specs.Str.{bytes_eq}
use Rattle.std.proofs.lemmas.Bool.{le-leb}
use Rattle.std.proofs.lemmas.List.{length-map}
use Rattle.farm_types.specs.declared.job.LayerSpec.{LayerSpec}
use Rattle.farm_types.specs.declared.limits.TheConstants.{MOST_PRIORITY}
use Rattle.farm_types.specs.declared.rows.JobRow.{JobRow}
use Rattle.farm_types.specs.declared.rows.LayerRow.{LayerRow}
use Rattle.farm_types.specs.Farm.{changed_at}
use Rattle.farm_types.specs.Jobs.{JobLists, frames_in, free_among, job_refusal, job_row, layer_rows, place_frames, frames_of}
use Rattle.job_entries.specs.declared.counts.Counts.{Counts}
use Rattle.job_index.specs.declared.limits.TheConstants.{MOST_JOBS}
use Rattle.job_book.specs.declared.placement.placing.Placing.{Placing}
use Rattle.job_book.specs.Book.{placing_of, with_new_job}
use Rattle.job_entries.specs.Counting.{new_counts}
use Rattle.job_entries.specs.Entries.{are_layers, with_entry}
use Rattle.job_book.specs.Inside.{book_of, counts_for}
use Rattle.job_book.specs.Layers.{Spare, count_of, fresh_places, marks_of}
use Rattle.job_book.specs.Names.{is_named}
use Rattle.job_index.specs.Names.{number_of}
use Rattle.job_entries.specs.OneJob.{AllJobs, OneJob}
use Rattle.job_book.specs.Lowest.{AreNext, behind, filled, lowest_free}
use Rattle.job_book.specs.Ready.{has_priority, ready_key}
use Rattle.job_index.specs.Keys.{put_key}
use Rattle.job_book.proofs.EndingLemmas.FinishNumbers.{placed_finishes}
use Rattle.job_book.proofs.PlacementLemmas.FreePlaces.{put_lowest}
use Rattle.job_book.proofs.PlacementLemmas.FreeSlots.{behind_placed, filled_all, length-lowest_free, next_lowest}
use Rattle.job_book.proofs.NamedJobs.{keeps_more, unnamed}
use Rattle.job_book.proofs.PlacementLemmas.Placed.{accepted_fits, length-layer_rows, placed_book, placed_counts, placed_finished, placed_free, rows_few, rows_are_layers}
use Rattle.job_book.proofs.PlacementLemmas.PlacedWaiting.{more_layers, more_waiting}
use Rattle.job_book.proofs.PlacementLemmas.Putting.{length-frames_of}
use Rattle.job_book.proofs.ReadyKept.{placed_can, placed_ready}
use Rattle.job_book.proofs.jobs.Jobs.place_new.Goals as goal

pub put_layers-requires-clause-index : goal.put_layers-requires-clause-index
put_layers-requires-clause-index c =
    ap (λ (s : Spare). s.layers) (c.reserved.view_is ∙ c.requires.reserved) ∙ ap (map fresh_places) (sym (c.as_slice.ensures.value ∙ c.taken_apart-row.ensures.layers))

pub put_layers-requires-clause-next : goal.put_layers-requires-clause-next
put_layers-requires-clause-next c =
    let inside = c.self.inside in
    let kept = c.self.invariant in
    let ok = kept.lists in
    let b = book_of inside in
    let spec = c.args.spec in
    let show = c.args.placing.show in
    let layer_limits = c.args.placing.limits in
    let accepted : job_refusal b spec ≡ None = ap (λ (l : JobLists). job_refusal l spec) c.self.view_is ∙ c.requires.accepted in
    let placing : c.args.placing ≡ placing_of b show layer_limits spec = c.requires.placing ∙ ap (λ (l : JobLists). placing_of l show layer_limits spec) (sym c.self.view_is) in
    let fits = accepted_fits b spec accepted in
    let places : c.as_slice-places.result.now ≡ lowest_free 0 b.slots (frames_in spec.layers) = c.as_slice-places.ensures ∙ ap (λ (p : Placing). p.slots) placing in
    subst (λ (ns : List ℕ). AreNext ns (length b.slots)) (sym places) (next_lowest 0 (length b.slots) b.slots (frames_in spec.layers) (omega arith) ok.slot_count (omega (arith, fits.0)))

pub put_layers-requires-clause-count : goal.put_layers-requires-clause-count
put_layers-requires-clause-count c =
    let inside = c.self.inside in
    let kept = c.self.invariant in
    let ok = kept.lists in
    let b = book_of inside in
    let spec = c.args.spec in
    let show = c.args.placing.show in
    let layer_limits = c.args.placing.limits in
    let accepted : job_refusal b spec ≡ None = ap (λ (l : JobLists). job_refusal l spec) c.self.view_is ∙ c.requires.accepted in
    let placing : c.args.placing ≡ placing_of b show layer_limits spec = c.requires.placing ∙ ap (λ (l : JobLists). placing_of l show layer_limits spec) (sym c.self.view_is) in
    let fits = accepted_fits b spec accepted in
    let places : c.as_slice-places.result.now ≡ lowest_free 0 b.slots (frames_in spec.layers) = c.as_slice-places.ensures ∙ ap (λ (p : Placing). p.slots) placing in
    ap length places ∙ length-lowest_free 0 b.slots (frames_in spec.layers) ∙ ap frames_in (sym (c.as_slice.ensures.value ∙ c.taken_apart-row.ensures.layers))

pub behind_last-self-inside-requires-clause-some : goal.behind_last-self-inside-requires-clause-some
behind_last-self-inside-requires-clause-some c =
    let inside = c.self.inside in
    let kept = c.self.invariant in
    let ok = kept.lists in
    let b = book_of inside in
    let spec = c.args.spec in
    let show = c.args.placing.show in
    let layer_limits = c.args.placing.limits in
    let accepted : job_refusal b spec ≡ None = ap (λ (l : JobLists). job_refusal l spec) c.self.view_is ∙ c.requires.accepted in
    let placing : c.args.placing ≡ placing_of b show layer_limits spec = c.requires.placing ∙ ap (λ (l : JobLists). placing_of l show layer_limits spec) (sym c.self.view_is) in
    let fits = accepted_fits b spec accepted in
    let places : c.as_slice-places.result.now ≡ lowest_free 0 b.slots (frames_in spec.layers) = c.as_slice-places.ensures ∙ ap (λ (p : Placing). p.slots) placing in
    omega (arith, ap length places, length-lowest_free 0 b.slots (frames_in spec.layers), c.requires.limits.frames_within.0)

pub behind_last-self-inside-requires-clause-within : goal.behind_last-self-inside-requires-clause-within
behind_last-self-inside-requires-clause-within c =
    let inside = c.self.inside in
    let kept = c.self.invariant in
    let ok = kept.lists in
    let b = book_of inside in
    let spec = c.args.spec in
    let show = c.args.placing.show in
    let layer_limits = c.args.placing.limits in
    let accepted : job_refusal b spec ≡ None = ap (λ (l : JobLists). job_refusal l spec) c.self.view_is ∙ c.requires.accepted in
    let placing : c.args.placing ≡ placing_of b show layer_limits spec = c.requires.placing ∙ ap (λ (l : JobLists). placing_of l show layer_limits spec) (sym c.self.view_is) in
    let fits = accepted_fits b spec accepted in
    let places : c.as_slice-places.result.now ≡ lowest_free 0 b.slots (frames_in spec.layers) = c.as_slice-places.ensures ∙ ap (λ (p : Placing). p.slots) placing in
    let frames_are = frames_of b.next_job 0 spec.layers in
    let low = ap (behind 0) (places ∙ ap (lowest_free 0 b.slots) (sym (length-frames_of b.next_job 0 spec.layers))) in
    omega (arith, low, (behind_placed 0 b.slots frames_are).within, (placed_book b show layer_limits spec c.requires.limits accepted ok).slot_count)

pub add_layers-requires-clause-capacity : goal.add_layers-requires-clause-capacity
add_layers-requires-clause-capacity c =
    let index = ap (λ (s : Spare). length s.layers) (c.reserved.view_is ∙ c.requires.reserved) in
    omega (arith, ap (λ (ls : List LayerRow). length ls) c.reserved.invariant.0, c.reserved.invariant.1, index, length-map c.args.spec.layers fresh_places, ap (λ (ls : List LayerSpec). length ls) c.taken_apart-row.ensures.layers)

pub add-requires-clause-new : goal.add-requires-clause-new
add-requires-clause-new c =
    let inside = c.self.inside in
    let name : string_bytes c.reserved.inside.name ≡ c.args.spec.name = ap (λ (s : Spare). s.name) (c.reserved.view_is ∙ c.requires.reserved) in
    let none = ap (λ (l : JobLists). list_any (is_named c.args.spec.name) l.jobs) c.self.view_is ∙ c.requires.unnamed in
    ap (λ (n : List ℕ). number_of n inside.names.pairs) name ∙ unnamed inside.names.pairs inside.entries.rows c.args.spec.name c.self.invariant.names none

pub add-requires-clause-few : goal.add-requires-clause-few
add-requires-clause-few c =
    let inside = c.self.inside in
    let kept = c.self.invariant in
    let ok = kept.lists in
    let b = book_of inside in
    let spec = c.args.spec in
    let show = c.args.placing.show in
    let layer_limits = c.args.placing.limits in
    let accepted : job_refusal b spec ≡ None = ap (λ (l : JobLists). job_refusal l spec) c.self.view_is ∙ c.requires.accepted in
    let placing : c.args.placing ≡ placing_of b show layer_limits spec = c.requires.placing ∙ ap (λ (l : JobLists). placing_of l show layer_limits spec) (sym c.self.view_is) in
    let job : c.args.placing.job ≡ b.next_job = ap (λ (p : Placing). p.job) placing in
    let fits = accepted_fits b spec accepted in
    let few : length inside.entries.rows + 1 < MOST_JOBS = omega (arith, rows_few inside.slots.items inside.entries.rows ok.slots_had, ok.jobs_fit, kept.finishes.few, fits.0, c.requires.limits.frames_within.0) in
    omega (arith, few, kept.names.as_many)

pub put_ready-requires-clause-priority : goal.put_ready-requires-clause-priority
put_ready-requires-clause-priority c =
    ap has_priority c.taken_apart-row.ensures.row ∙ le-leb c.args.spec.priority MOST_PRIORITY c.requires.limits.priority_within.1

pub put_ready-requires-clause-can : goal.put_ready-requires-clause-can
put_ready-requires-clause-can c =
    let inside = c.self.inside in
    let kept = c.self.invariant in
    let ok = kept.lists in
    let b = book_of inside in
    let spec = c.args.spec in
    let show = c.args.placing.show in
    let layer_limits = c.args.placing.limits in
    let accepted : job_refusal b spec ≡ None = ap (λ (l : JobLists). job_refusal l spec) c.self.view_is ∙ c.requires.accepted in
    let placing : c.args.placing ≡ placing_of b show layer_limits spec = c.requires.placing ∙ ap (λ (l : JobLists). placing_of l show layer_limits spec) (sym c.self.view_is) in
    let job : c.args.placing.job ≡ b.next_job = ap (λ (p : Placing). p.job) placing in
    let fits = accepted_fits b spec accepted in
    let few : length inside.entries.rows + 1 < MOST_JOBS = omega (arith, rows_few inside.slots.items inside.entries.rows ok.slots_had, ok.jobs_fit, kept.finishes.few, fits.0, c.requires.limits.frames_within.0) in
    let row : c.taken_apart-row.result.0 ≡ job_row b.next_job show spec = c.taken_apart-row.ensures.row ∙ ap (λ n. job_row n show spec) job in
    let placed = placed_book b show layer_limits spec c.requires.limits accepted ok in
    rw row (placed_can b show layer_limits spec c.requires.limits ok placed few inside.ready.items kept.ready)

pub add-requires-2-clause-number : goal.add-requires-2-clause-number
add-requires-2-clause-number c =
    let inside = c.self.inside in
    let kept = c.self.invariant in
    let ok = kept.lists in
    let b = book_of inside in
    let spec = c.args.spec in
    let show = c.args.placing.show in
    let layer_limits = c.args.placing.limits in
    let accepted : job_refusal b spec ≡ None = ap (λ (l : JobLists). job_refusal l spec) c.self.view_is ∙ c.requires.accepted in
    let placing : c.args.placing ≡ placing_of b show layer_limits spec = c.requires.placing ∙ ap (λ (l : JobLists). placing_of l show layer_limits spec) (sym c.self.view_is) in
    let job : c.args.placing.job ≡ b.next_job = ap (λ (p : Placing). p.job) placing in
    let fits = accepted_fits b spec accepted in
    ap (λ (e : OneJob). e.row.job) c.make.ensures ∙ ap (λ (r : JobRow). r.job) c.taken_apart-row.ensures.row ∙ job

pub add-requires-2-clause-left : goal.add-requires-2-clause-left
add-requires-2-clause-left c =
    let inside = c.self.inside in
    let kept = c.self.invariant in
    let ok = kept.lists in
    let b = book_of inside in
    let spec = c.args.spec in
    let show = c.args.placing.show in
    let layer_limits = c.args.placing.limits in
    let accepted : job_refusal b spec ≡ None = ap (λ (l : JobLists). job_refusal l spec) c.self.view_is ∙ c.requires.accepted in
    let placing : c.args.placing ≡ placing_of b show layer_limits spec = c.requires.placing ∙ ap (λ (l : JobLists). placing_of l show layer_limits spec) (sym c.self.view_is) in
    let job : c.args.placing.job ≡ b.next_job = ap (λ (p : Placing). p.job) placing in
    let fits = accepted_fits b spec accepted in
    fits.1

pub add-requires-2-clause-layers : goal.add-requires-2-clause-layers
add-requires-2-clause-layers c =
    let inside = c.self.inside in
    let kept = c.self.invariant in
    let ok = kept.lists in
    let b = book_of inside in
    let spec = c.args.spec in
    let show = c.args.placing.show in
    let layer_limits = c.args.placing.limits in
    let accepted : job_refusal b spec ≡ None = ap (λ (l : JobLists). job_refusal l spec) c.self.view_is ∙ c.requires.accepted in
    let placing : c.args.placing ≡ placing_of b show layer_limits spec = c.requires.placing ∙ ap (λ (l : JobLists). placing_of l show layer_limits spec) (sym c.self.view_is) in
    let job : c.args.placing.job ≡ b.next_job = ap (λ (p : Placing). p.job) placing in
    let fits = accepted_fits b spec accepted in
    let rows = c.add_layers.ensures.rows ∙ ap (λ (ls : List LayerRow). ls ++ layer_rows c.args.placing.job c.as_slice-2.result.now 0 c.taken_apart-row.result.1.items) c.reserved.invariant.0
    ∙ ap (λ (ls : List (Option ℕ)). layer_rows c.args.placing.job ls 0 c.taken_apart-row.result.1.items) c.as_slice-2.ensures in
    ap (λ (e : OneJob). are_layers e.row.job 0 e.layers) c.make.ensures
    ∙ ap (λ (r : JobRow). are_layers r.job 0 c.add_layers.new.rows.items) c.taken_apart-row.ensures.row
    ∙ ap (are_layers c.args.placing.job 0) rows ∙ rows_are_layers c.args.placing.job c.args.placing.limits 0 c.taken_apart-row.result.1.items

pub add-requires-2-clause-index : goal.add-requires-2-clause-index
add-requires-2-clause-index c =
    let more = sym (length-map c.put_layers.new.index.items count_of) ∙ ap (λ (ns : List ℕ). length ns) c.put_layers.ensures.lengths ∙ length-map c.as_slice.result.now (λ (l : LayerSpec). length l.numbers) ∙ ap (λ (ls : List LayerSpec). length ls) c.as_slice.ensures.value in
    let rows = c.add_layers.ensures.rows ∙ ap (λ (ls : List LayerRow). ls ++ layer_rows c.args.placing.job c.as_slice-2.result.now 0 c.taken_apart-row.result.1.items) c.reserved.invariant.0
    ∙ ap (λ (ls : List (Option ℕ)). layer_rows c.args.placing.job ls 0 c.taken_apart-row.result.1.items) c.as_slice-2.ensures in
    ap (λ (e : OneJob). length e.index) c.make.ensures ∙ more
    ∙ sym (ap (λ (e : OneJob). length e.layers) c.make.ensures ∙ ap (λ (ls : List LayerRow). length ls) rows ∙ length-layer_rows c.args.placing.job c.args.placing.limits 0 c.taken_apart-row.result.1.items)

pub add-requires-2-clause-few : goal.add-requires-2-clause-few
add-requires-2-clause-few c =
    let inside = c.self.inside in
    let kept = c.self.invariant in
    let ok = kept.lists in
    let b = book_of inside in
    let spec = c.args.spec in
    let show = c.args.placing.show in
    let layer_limits = c.args.placing.limits in
    let accepted : job_refusal b spec ≡ None = ap (λ (l : JobLists). job_refusal l spec) c.self.view_is ∙ c.requires.accepted in
    let placing : c.args.placing ≡ placing_of b show layer_limits spec = c.requires.placing ∙ ap (λ (l : JobLists). placing_of l show layer_limits spec) (sym c.self.view_is) in
    let job : c.args.placing.job ≡ b.next_job = ap (λ (p : Placing). p.job) placing in
    let fits = accepted_fits b spec accepted in
    let few : length inside.entries.rows + 1 < MOST_JOBS = omega (arith, rows_few inside.slots.items inside.entries.rows ok.slots_had, ok.jobs_fit, kept.finishes.few, fits.0, c.requires.limits.frames_within.0) in
    omega (arith, few)

pub invariant_of-self : goal.invariant_of-self
invariant_of-self c =
    let inside = c.self.inside in
    let kept = c.self.invariant in
    let ok = kept.lists in
    let b = book_of inside in
    let spec = c.args.spec in
    let show = c.args.placing.show in
    let layer_limits = c.args.placing.limits in
    let accepted : job_refusal b spec ≡ None = ap (λ (l : JobLists). job_refusal l spec) c.self.view_is ∙ c.requires.accepted in
    let placing : c.args.placing ≡ placing_of b show layer_limits spec = c.requires.placing ∙ ap (λ (l : JobLists). placing_of l show layer_limits spec) (sym c.self.view_is) in
    let job : c.args.placing.job ≡ b.next_job = ap (λ (p : Placing). p.job) placing in
    let fits = accepted_fits b spec accepted in
    let few : length inside.entries.rows + 1 < MOST_JOBS = omega (arith, rows_few inside.slots.items inside.entries.rows ok.slots_had, ok.jobs_fit, kept.finishes.few, fits.0, c.requires.limits.frames_within.0) in
    let frames : c.args.placing.frames ≡ frames_in spec.layers = ap (λ (p : Placing). p.frames) placing in
    let layers = c.taken_apart-row.ensures.layers in
    let row : c.taken_apart-row.result.0 ≡ job_row b.next_job show spec = c.taken_apart-row.ensures.row ∙ ap (λ n. job_row n show spec) job in
    let name : string_bytes c.reserved.inside.name ≡ spec.name = ap (λ (s : Spare). s.name) (c.reserved.view_is ∙ c.requires.reserved) in
    let given = c.as_slice.ensures.value ∙ layers in
    let frames_are = frames_of b.next_job 0 spec.layers in
    let places : c.as_slice-places.result.now ≡ lowest_free 0 b.slots (length frames_are) =
    c.as_slice-places.ensures ∙ ap (λ (p : Placing). p.slots) placing ∙ ap (lowest_free 0 b.slots) (sym (length-frames_of b.next_job 0 spec.layers)) in
    let new_slots : c.put_layers.new.slots.items ≡ place_frames b.slots frames_are =
    c.put_layers.ensures.slots ∙ (λ i. filled (places i) (frames_of (job i) 0 (given i)) b.slots) ∙ filled_all b.slots frames_are in
    let new_rows : c.add_layers.new.rows.items ≡ layer_rows b.next_job layer_limits 0 spec.layers =
    c.add_layers.ensures.rows ∙ ap (λ (ls : List LayerRow). ls ++ layer_rows c.args.placing.job c.as_slice-2.result.now 0 c.taken_apart-row.result.1.items) c.reserved.invariant.0
    ∙ ap (λ (ls : List (Option ℕ)). layer_rows c.args.placing.job ls 0 c.taken_apart-row.result.1.items) c.as_slice-2.ensures
    ∙ ap (λ (n : ℕ). layer_rows n layer_limits 0 c.taken_apart-row.result.1.items) job ∙ ap (λ (ls : List LayerSpec). layer_rows b.next_job layer_limits 0 ls) layers in
    let waiting = c.all_waiting.ensures ∙ ap new_counts frames in
    let more = c.put_layers.new.index.items in
    let made : c.add-2.new.self ≡ with_entry (record { row = c.taken_apart-row.result.0; counts = c.all_waiting.result; layers = c.add_layers.new.rows.items; index = c.put_layers.new.index.items }) c.add-2.new.self.numbers inside.entries =
    c.add-2.ensures ∙ ap (λ (e : OneJob). with_entry e c.add-2.new.self.numbers inside.entries) c.make.ensures in
    let rows_are = ap (λ (r : JobRow). b.jobs ++ r ∷ []) row in
    let counts_are = ap (λ (cs : List Counts). cs ++ c.all_waiting.result ∷ []) kept.counts_are ∙ ap (λ (k : Counts). counts_for b.jobs b.slots ++ k ∷ []) waiting in
    let layers_are = ap (λ (ls : List LayerRow). b.layers ++ ls) new_rows in
    let entries : c.add-2.new.self ≡ record { rows = b.jobs ++ job_row b.next_job show spec ∷ []; counts = counts_for b.jobs b.slots ++ new_counts (frames_in spec.layers) ∷ []; layers = b.layers ++ layer_rows b.next_job layer_limits 0 spec.layers; index = inside.entries.index ++ more; next = b.next_job + 1; numbers = c.add-2.new.self.numbers } =
    made ∙ (λ i. record { rows = rows_are i; counts = counts_are i; layers = layers_are i; index = inside.entries.index ++ more; next = b.next_job + 1; numbers = c.add-2.new.self.numbers }) in
    let placed = placed_book b show layer_limits spec c.requires.limits accepted ok in
    let free = placed_free b show layer_limits spec c.requires.limits accepted ok in
    let counted = placed_counts b show layer_limits spec c.requires.limits accepted ok in
    let none = ap (λ (l : JobLists). list_any (is_named spec.name) l.jobs) c.self.view_is ∙ c.requires.unnamed in
    let found = λ (other : List ℕ). c.add.ensures.others other ∙ ap (λ (n : List ℕ). cond (bytes_eq n other) (Some c.args.placing.job) (number_of other inside.names.pairs)) name
    ∙ ap (λ (n : ℕ). cond (bytes_eq spec.name other) (Some n) (number_of other inside.names.pairs)) job in
    let low : c.behind_last-self-inside.result ≡ behind 0 (lowest_free 0 b.slots (length frames_are)) = c.behind_last-self-inside.ensures ∙ ap (behind 0) places in
    let last = behind_placed 0 b.slots frames_are in
    let here : behind 0 (lowest_free 0 b.slots (length frames_are)) - 0 ≡ behind 0 (lowest_free 0 b.slots (length frames_are)) = omega arith in
    let numbered = c.put_layers.ensures.lengths ∙ ap (map (λ (l : LayerSpec). length l.numbers)) given in
    let marked = c.put_layers.ensures.marks ∙ ap (λ (s : Spare). map marks_of s.layers) (c.reserved.view_is ∙ c.requires.reserved) in
    let went = c.put_layers.ensures.places ∙ places ∙ sym (put_lowest 0 b.slots frames_are) in
    let layers_kept = more_layers b.layers b.slots inside.entries.index more b.next_job layer_limits spec.layers ok.layers_rise placed.layers_rise ok.frames_below kept.layers kept.waiting went numbered marked in
    let waiting_kept = more_waiting b.layers b.slots inside.entries.index more b.next_job layer_limits spec.layers ok.layers_rise placed.layers_rise ok.frames_below kept.layers kept.waiting went numbered marked in
    let ready = placed_ready b show layer_limits spec c.requires.limits ok placed few inside.ready.items kept.ready in
    let ready_is = c.put_ready.ensures ∙ ap (λ (r : JobRow). changed_at inside.ready.items r.show (put_key (ready_key r))) row in
    record {
      lists = rw (entries, new_slots) placed;
      names = rw entries (keeps_more inside.names.pairs c.add.new.self.pairs b.jobs (job_row b.next_job show spec) none found c.add.ensures.count kept.names);
      finishes = rw entries (placed_finishes b show spec kept.finishes);
      finished = rw entries (placed_finished b show spec inside.finished kept.finished);
      free = rw (new_slots, low) (record {
        free_is = omega (arith, free, kept.free.free_is, frames);
        within = omega (arith, last.within);
        none_below = ap (λ (n : ℕ). free_among (drop n (place_frames b.slots frames_are))) (sym here) ∙ last.none_below;
      });
      layers = rw (entries, new_slots) layers_kept;
      waiting = rw (entries, new_slots) waiting_kept;
      ready = rw (entries, new_slots, ready_is) ready;
      counts_are = rw (entries, new_slots) (sym counted);
      slots_capacity = rw c.put_layers.ensures.capacity kept.slots_capacity;
    }

pub returns-clause-book : goal.returns-clause-book
returns-clause-book c =
    let inside = c.self.inside in
    let kept = c.self.invariant in
    let ok = kept.lists in
    let b = book_of inside in
    let spec = c.args.spec in
    let show = c.args.placing.show in
    let layer_limits = c.args.placing.limits in
    let accepted : job_refusal b spec ≡ None = ap (λ (l : JobLists). job_refusal l spec) c.self.view_is ∙ c.requires.accepted in
    let placing : c.args.placing ≡ placing_of b show layer_limits spec = c.requires.placing ∙ ap (λ (l : JobLists). placing_of l show layer_limits spec) (sym c.self.view_is) in
    let job : c.args.placing.job ≡ b.next_job = ap (λ (p : Placing). p.job) placing in
    let fits = accepted_fits b spec accepted in
    let layers = c.taken_apart-row.ensures.layers in
    let row : c.taken_apart-row.result.0 ≡ job_row b.next_job show spec = c.taken_apart-row.ensures.row ∙ ap (λ n. job_row n show spec) job in
    let given = c.as_slice.ensures.value ∙ layers in
    let frames_are = frames_of b.next_job 0 spec.layers in
    let places : c.as_slice-places.result.now ≡ lowest_free 0 b.slots (length frames_are) =
    c.as_slice-places.ensures ∙ ap (λ (p : Placing). p.slots) placing ∙ ap (lowest_free 0 b.slots) (sym (length-frames_of b.next_job 0 spec.layers)) in
    let new_slots : c.put_layers.new.slots.items ≡ place_frames b.slots frames_are =
    c.put_layers.ensures.slots ∙ (λ i. filled (places i) (frames_of (job i) 0 (given i)) b.slots) ∙ filled_all b.slots frames_are in
    let new_rows : c.add_layers.new.rows.items ≡ layer_rows b.next_job layer_limits 0 spec.layers =
    c.add_layers.ensures.rows ∙ ap (λ (ls : List LayerRow). ls ++ layer_rows c.args.placing.job c.as_slice-2.result.now 0 c.taken_apart-row.result.1.items) c.reserved.invariant.0
    ∙ ap (λ (ls : List (Option ℕ)). layer_rows c.args.placing.job ls 0 c.taken_apart-row.result.1.items) c.as_slice-2.ensures
    ∙ ap (λ (n : ℕ). layer_rows n layer_limits 0 c.taken_apart-row.result.1.items) job ∙ ap (λ (ls : List LayerSpec). layer_rows b.next_job layer_limits 0 ls) layers in
    let made : c.add-2.new.self ≡ with_entry (record { row = c.taken_apart-row.result.0; counts = c.all_waiting.result; layers = c.add_layers.new.rows.items; index = c.put_layers.new.index.items }) c.add-2.new.self.numbers inside.entries =
    c.add-2.ensures ∙ ap (λ (e : OneJob). with_entry e c.add-2.new.self.numbers inside.entries) c.make.ensures in
    let rows_are = ap (λ (a : AllJobs). a.rows) made ∙ ap (λ (r : JobRow). b.jobs ++ r ∷ []) row in
    let layers_are = ap (λ (a : AllJobs). a.layers) made ∙ ap (λ (ls : List LayerRow). b.layers ++ ls) new_rows in
    let next_is = ap (λ (a : AllJobs). a.next) made in
    (λ i. record { jobs = rows_are i; layers = layers_are i; slots = new_slots i; next_job = next_is i; next_finish = inside.next_finish }) ∙ ap (λ (l : JobLists). with_new_job l show layer_limits spec) c.self.view_is
