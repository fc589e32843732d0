use Rattle.std.proofs.Common.{◌≡◌, ◌<◌, ◌+◌, ◌∙◌, ◌++◌, ◌∷◌, [], List, length, replicate, take, sym, ap, arith, rules}
use Rattle.std.specs.List.{slice_get}
use Rattle.std.proofs.lemmas.List.{length-take-le, take_more}
use Rattle.farm_types.specs.declared.slot_row.SlotRow.{SlotRow}
use Rattle.job_entries.specs.declared.counts.Counts.{Counts}
use Rattle.job_index.specs.declared.ready_jobs.TheConstants.{JOB_NUMBERS}
use Rattle.job_book.specs.Inside.{counts_for}
use Rattle.job_book.specs.Restored.{counted_frame}
use Rattle.job_book.proofs.RestoringLemmas.RestoredCounts.{count_more, few_counts, none_counted}
use Rattle.job_book.proofs.restoring.counts.counts_in.Goals as goal

pub loop-slot-init : goal.loop-slot-init
loop-slot-init c =
    let rows = c.args.rows.now in
    c.in_ok-counts.ensures.items_if_clones_equal (λ y h. search rules) ∙ ap (λ (k : Counts). replicate (length rows) k) c.all_waiting.ensures ∙ none_counted rows

pub count_frame-requires-clause-few : goal.count_frame-requires-clause-few
count_frame-requires-clause-few c =
    let slots = c.args.slots.now in
    let i = c.loop-slot.slot-index in
    let long : length (take i slots) ≡ i = length-take-le i slots (omega arith) in
    let within : i < length slots = omega arith in
    λ n k at. few_counts c.args.rows.now (take i slots) (omega (arith, long, within, c.requires.slot_count)) n k (sym (ap (λ (cs : List Counts). slice_get cs n) c.loop-slot.invariant) ∙ at)

pub loop-slot-preserved : goal.loop-slot-preserved
loop-slot-preserved c =
    let rows = c.args.rows.now in
    let slots = c.args.slots.now in
    let i = c.loop-slot.slot-index in
    let slot = c.slot-item.result in
    let more : take (i + 1) slots ≡ take i slots ++ slot ∷ [] = take_more slots i slot (omega arith) ∙ ap (λ (r : SlotRow). take i slots ++ r ∷ []) (sym c.slot-item.is) in
    c.count_frame.ensures ∙ ap (counted_frame rows slot.frame) c.loop-slot.invariant ∙ sym (count_more (take i slots) slot rows JOB_NUMBERS c.requires.rise) ∙ sym (ap (counts_for rows) more)
