use Rattle.std.proofs.Common.{◌≡◌, ◌∙◌, ◌+◌, ◌∷◌, [], List, Option, Some, drop, nat_eq, sym, ap, subst, arith}
use Rattle.std.proofs.lemmas.List.{drop_all, drop_more}
use Rattle.indexmap.specs.IndexMap.{get}
use Rattle.farm_rows.specs.declared.farm_row.FarmRow.TheVariants as row
use Rattle.farm_rows.specs.declared.frame_row.FrameRow.{FrameRow}
use Rattle.farm_rows.specs.declared.row_change.RowChange.{RowChange}
use Rattle.farm_rows.specs.declared.row_key.RowKey.TheVariants as key
use Rattle.farm_rows.specs.Changes.{row_after}
use Rattle.farm_depends.specs.FollowRows.{laid_over}
use Rattle.farm_depends.proofs.RowLemmas.FramesRead.{note_one}
use Rattle.farm_depends.proofs.rows.moved.frames_in.Goals as goal

pub loop-change-preserved : goal.loop-change-preserved
loop-change-preserved c = λ slot old r h.
    let l = c.loop-change in
    let changes = c.args.changes.now in
    let x = c.change-item.result in
    let rest = drop (l.change-index + 1) changes in
    let one : drop l.change-index changes ≡ x ∷ rest = drop_more changes l.change-index x (omega arith) ∙ ap (λ (d : RowChange). d ∷ rest) (sym c.change-item.is) in
    let before = subst (λ (cs : List RowChange). row_after cs (key.Frame slot) (laid_over (get nat_eq l.frames slot) old) ≡ Some (row.Frame r)) one (l.invariant slot old r h) in
    subst (λ (o : Option FrameRow). row_after rest (key.Frame slot) (laid_over o old) ≡ Some (row.Frame r)) (sym (c.in_ok-note_change.ensures slot))
    (note_one rest slot (row.Frame r) old x (get nat_eq l.frames slot) before)

pub returns : goal.returns
returns c = λ slot old r h.
    let l = c.loop-change in
    let changes = c.args.changes.now in
    let none : drop l.change-index changes ≡ [] = drop_all l.change-index changes (omega arith) in
    subst (λ (cs : List RowChange). row_after cs (key.Frame slot) (laid_over (get nat_eq l.frames slot) old) ≡ Some (row.Frame r)) none (l.invariant slot old r h)
