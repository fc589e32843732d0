use Rattle.std.proofs.Common.{◌≡◌, ◌∙◌, ◌≤◌, List, Some, length, sym, ap, subst, arith}
use Rattle.std.specs.List.{slice_get}
use Rattle.std.proofs.lemmas.List.{take_all}
use Rattle.std.proofs.lemmas.List.Elements.{All-get_or}
use Rattle.std.proofs.lemmas.Option.{slice_get-get_or}
use Rattle.farm_types.specs.declared.slot_row.SlotRow.{SlotRow}
use Rattle.farm_draft.specs.Rows.{Stood, put_slots}
use Rattle.farm_draft.specs.declared.slot_change.SlotChange.{SlotChange}
use Rattle.farm_finish.specs.Versions.{done_in}
use Rattle.farm_finish.proofs.RowLemmas.DoneRows.{can_move, one_more}
use Rattle.farm_finish.proofs.rows_job.done_after.Goals as goal

pub loop-change-init : goal.loop-change-init
loop-change-init c = c.done_before-done.ensures

pub moved_by-done-requires : goal.moved_by-done-requires
moved_by-done-requires c =
    let l = c.loop-change in
    let slots = c.args.book.now.slots in
    let rows = c.args.rows.now in
    let e = c.change-item.result in
    let here : slice_get rows l.change-index ≡ Some e = slice_get-get_or rows l.change-index e (omega arith) ∙ ap Some (sym c.change-item.is) in
    let stood : Stood slots e = subst (Stood slots) (sym c.change-item.is) (All-get_or (Stood slots) rows l.change-index e (omega arith) c.requires.rows.stood) in
    let few : length slots ≤ 65536 = subst (λ (ss : List SlotRow). length ss ≤ 65536) c.slots-slots.ensures.value c.slots-slots.ensures.count in
    can_move c.args.job slots rows c.requires.rows.differ l.change-index e here l.done l.invariant e.was stood few

pub loop-change-preserved : goal.loop-change-preserved
loop-change-preserved c =
    let l = c.loop-change in
    let slots = c.args.book.now.slots in
    let rows = c.args.rows.now in
    let e = c.change-item.result in
    let here : slice_get rows l.change-index ≡ Some e = slice_get-get_or rows l.change-index e (omega arith) ∙ ap Some (sym c.change-item.is) in
    let stood : Stood slots e = subst (Stood slots) (sym c.change-item.is) (All-get_or (Stood slots) rows l.change-index e (omega arith) c.requires.rows.stood) in
    one_more c.args.job slots rows c.requires.rows.differ l.change-index e here l.done l.invariant e.was stood c.moved_by-done.result c.moved_by-done.ensures

pub returns : goal.returns
returns c =
    let l = c.loop-change in
    subst (λ (es : List SlotChange). l.done ≡ done_in c.args.job (put_slots c.args.book.now.slots es)) (take_all l.change-index c.args.rows.now (omega arith)) l.invariant
