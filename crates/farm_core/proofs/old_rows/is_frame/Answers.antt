use Rattle.std.proofs.Common.{◌≡◌, ◌↔◌, ◌∙◌, false, IsTrue, Option, Some, sym, subst}
use Rattle.std.specs.Prelude.{option_and_then}
use Rattle.farm_types.specs.declared.slot_row.SlotRow.{SlotRow}
use Rattle.farm_rows.specs.declared.farm_row.FarmRow.TheVariants as row
use Rattle.farm_rows.specs.Changes.{used_row}
use Rattle.farm_rows.specs.Rows.{frame_row, is_unused}
use Rattle.farm_core.proofs.SameRow.{none_same, used_same}
use Rattle.farm_core.proofs.old_rows.is_frame.Goals as goal

pub returns-in-None : goal.returns-in-None
returns-in-None c =
    let x = c.args.row.now in
    subst (λ (o : Option SlotRow). IsTrue false ↔ (option_and_then (used_row x.slot) o ≡ Some (row.Frame x))) (sym c.in-None.is ∙ c.slot.ensures) (none_same (row.Frame x))

pub returns-in-Some : goal.returns-in-Some
returns-in-Some c =
    let x = c.args.row.now in
    let old = c.in-Some.old in
    subst (λ (o : Option SlotRow). IsTrue c.is_stored.result ↔ (option_and_then (used_row x.slot) o ≡ Some (row.Frame x))) (sym c.in-Some.is ∙ c.slot.ensures)
    (used_same (is_unused old) (frame_row x.slot old) x c.is_stored.result c.is_stored.ensures)
