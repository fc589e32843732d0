use Rattle.std.proofs.Common.{◌∙◌, List, sym, ap, option_map}
use Rattle.farm_types.specs.declared.slot_row.SlotRow.{SlotRow}
use Rattle.farm_draft.specs.Drafted.{with_slots}
use Rattle.farm_draft.specs.Rows.{row_of}
use Rattle.farm_draft.proofs.KilledJobs.{killed_kept}
use Rattle.farm_draft.proofs.draft.Draft.kill_one.Goals as goal

pub returns-then-not-is_left_of : goal.returns-then-not-is_left_of
returns-then-not-is_left_of c =
    let d = c.args.self.now in
    sym (ap (λ (ss : List SlotRow). with_slots d ss)
    (killed_kept c.args.job d.farm.slots c.args.slot c.in-Some.change.row (sym c.slot.ensures.row ∙ ap (option_map row_of) c.in-Some.is) (sym c.is_left_of.ensures ∙ c.if-not-is_left_of.true)))
