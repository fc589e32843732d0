use Rattle.std.proofs.Common.{◌∙◌, Option, is_some, sym, ap}
use Rattle.std.specs.Prelude.{option_and_then}
use Rattle.farm_types.specs.declared.slot_row.SlotRow.{SlotRow}
use Rattle.farm_rows.specs.declared.farm_row.FarmRow.TheVariants as row
use Rattle.farm_rows.specs.Changes.{used_row}
use Rattle.farm_rows.specs.Rows.{frame_row, is_unused}
use Rattle.farm_core.proofs.SameRow.{used_some}
use Rattle.farm_core.proofs.old_rows.has_frame.Goals as goal

pub returns-in-None : goal.returns-in-None
returns-in-None c = ap (λ (o : Option SlotRow). is_some (option_and_then (used_row c.args.slot) o)) (sym c.in-None.is ∙ c.slot.ensures)

pub returns-in-Some : goal.returns-in-Some
returns-in-Some c =
    let old = c.in-Some.old in
    c.is_used.ensures
    ∙ (sym (used_some (is_unused old) (row.Frame (frame_row c.args.slot old)))
    ∙ ap (λ (o : Option SlotRow). is_some (option_and_then (used_row c.args.slot) o)) (sym c.in-Some.is ∙ c.slot.ensures))
