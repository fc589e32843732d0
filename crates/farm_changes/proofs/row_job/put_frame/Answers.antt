use Rattle.std.proofs.Common.{◌++◌, ◌∷◌, [], ℕ, ap, ◌∙◌}
use Rattle.std.specs.List.{slice_get}
use Rattle.farm_rows.specs.declared.farm_row.FarmRow.TheVariants as row
use Rattle.farm_rows.specs.declared.frame_row.FrameRow.{FrameRow}
use Rattle.farm_rows.specs.declared.row_change.RowChange.TheVariants as change
use Rattle.farm_rows.specs.Rows.{frame_row}
use Rattle.job_book.specs.Lowest.{slot_for}
use Rattle.farm_changes.proofs.row_job.put_frame.Goals as goal

pub returns : goal.returns
returns c =
    let slots = c.args.slots.now in
    let slot = c.args.slot in
    let old = c.args.into.now.items in
    let put = c.slot_for-row.ensures ∙ ap (λ (n : ℕ). slot_for c.args.frame (slice_get slots n)) c.slot.view_is in
    c.in_ok-push.ensures.items ∙ ap (λ (r : FrameRow). old ++ change.Put (row.Frame r) ∷ []) (c.of_slot-row.ensures ∙ ap (frame_row slot) put)
