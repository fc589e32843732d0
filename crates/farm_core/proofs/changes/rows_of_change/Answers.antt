use Rattle.std.proofs.Common.{◌≡◌, ◌∙◌, ℕ, List, [], ◌∷◌, ◌++◌, sym, ap, subst}
use Rattle.farm_types.specs.Step.{finish_each}
use Rattle.depend_law.specs.Ending.{CanEnd}
use Rattle.farm_rows.specs.declared.farm_row.FarmRow.TheVariants as row
use Rattle.farm_rows.specs.declared.row_change.RowChange.{RowChange}
use Rattle.farm_rows.specs.declared.row_change.RowChange.TheVariants as change_of
use Rattle.farm_rows.specs.Changes.{MakesRows, row_after, row_at}
use Rattle.farm_depends.specs.FollowRows.{IsActed}
use Rattle.farm_core.specs.Change.{after_change}
use Rattle.farm_core.proofs.StagesMade.{act_made, acted_farm, followed_farm, is_acted, stages_made}
use Rattle.farm_core.proofs.changes.rows_of_change.Goals as goal

pub row_changes-requires : goal.row_changes-requires
row_changes-requires c = c.requires.made.ready.fits

pub follow_rows-requires-clause-acted : goal.follow_rows-requires-clause-acted
follow_rows-requires-clause-acted c =
    let f = c.args.books.now.farm in
    let e = c.args.entry.now in
    let change = c.args.change.now in
    let m = c.requires.made in (
      acted_farm f e change m,
      subst (λ (rows : List RowChange). IsActed f rows change.follow (acted_farm f e change m)) (sym c.as_slice.ensures.value) (is_acted f e change m c.in_ok-rows.rows.items c.in_ok-rows.ensures),
    )

pub finish_rows-requires-clause-made : goal.finish_rows-requires-clause-made
finish_rows-requires-clause-made c = act_made c.args.books.now.farm c.args.entry.now c.args.change.now c.requires.made

pub finish_rows-requires-clause-follows : goal.finish_rows-requires-clause-follows
finish_rows-requires-clause-follows c = c.requires.made.staged.follows

pub finish_rows-requires-clause-jobs : goal.finish_rows-requires-clause-jobs
finish_rows-requires-clause-jobs c = c.as_slice-2.ensures ∙ c.requires.made.staged.jobs

pub finish_rows-requires-clause-ends : goal.finish_rows-requires-clause-ends
finish_rows-requires-clause-ends c =
    let f = c.args.books.now.farm in
    let change = c.args.change.now in
    let m = c.requires.made in
    subst (CanEnd (followed_farm f c.args.entry.now change m)) (sym c.as_slice-2.ensures) m.ready.ends

pub returns : goal.returns
returns c = λ k.
    let f = c.args.books.now.farm in
    let e = c.args.entry.now in
    let change = c.args.change.now in
    let m = c.requires.made in
    let acts = c.in_ok-rows.rows.items in
    let more = c.in_ok-followed.followed.items in
    let finished = c.in_ok-finished.finished.items in
    let head = c.head_after.result in
    let acted = subst (λ (rows : List RowChange). IsActed f rows change.follow (acted_farm f e change m)) (sym c.as_slice.ensures.value) (is_acted f e change m acts c.in_ok-rows.ensures) in
    let then = followed_farm f e change m in
    let third : MakesRows then (finish_each change.finish then) finished = subst (λ (jobs : List ℕ). MakesRows then (finish_each jobs then) finished) c.as_slice-2.ensures c.in_ok-finished.ensures in
    let all : c.push.new.self.items ≡ ((acts ++ more) ++ finished) ++ change_of.Put (row.Head head) ∷ [] =
    c.in_ok-push.ensures.items
    ∙ ap (λ (cs : List RowChange). cs ++ change_of.Put (row.Head head) ∷ []) (c.in_ok-add_all-2.ensures ∙ ap (λ (cs : List RowChange). cs ++ finished) c.in_ok-add_all.ensures)
    in
    subst (λ (cs : List RowChange). row_at (after_change f change) k ≡ row_after cs k (row_at f k)) (sym all)
    (stages_made f e change m acts more finished head c.in_ok-rows.ensures (c.in_ok-followed.ensures (acted_farm f e change m) acted) third c.head_after.ensures k)
