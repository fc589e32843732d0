use Rattle.std.proofs.Common.{◌∙◌, ◌+◌, ◌≡◌, ℕ, List, drop, ap, arith}
use Rattle.farm_types.specs.declared.slot_row.SlotRow.{SlotRow}
use Rattle.farm_types.specs.Jobs.{JobLists}
use Rattle.job_book.specs.Lowest.{lowest_free}
use Rattle.job_book.proofs.PlacementLemmas.FreeSlots.{skip_lowest}
use Rattle.job_book.proofs.jobs.Jobs.free_slots.Goals as goal

pub returns : goal.returns
returns c =
    let slots = c.self.inside.slots.items in
    let lowest = c.self.inside.lowest in
    let count = c.args.count in
    let start : lowest ≡ 0 + lowest = omega arith in
    c.from_vec.ensures ∙ c.in_ok-places.ensures ∙ ap (λ (ss : List SlotRow). lowest_free lowest (drop lowest ss) count) c.as_slice.ensures.value
    ∙ ap (λ (n : ℕ). lowest_free n (drop lowest slots) count) start
    ∙ skip_lowest lowest 0 slots count c.self.invariant.free.within c.self.invariant.free.none_below ∙ ap (λ (b : JobLists). lowest_free 0 b.slots count) c.self.view_is
