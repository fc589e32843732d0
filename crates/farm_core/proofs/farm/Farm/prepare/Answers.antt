use Rattle.std.proofs.Common.{◌≡◌, sym, subst}
use Rattle.farm_types.specs.Farm.{Farm}
use Rattle.farm_types.specs.Step.{HasCondition}
use Rattle.farm_rows.specs.declared.row_key.RowKey.{RowKey}
use Rattle.farm_rows.specs.Changes.{row_after, row_at}
use Rattle.farm_core.specs.Change.{Plans, Prepares, after_change}
use Rattle.farm_core.proofs.Prepared.{act_fails, plan_fails}
use Rattle.farm_core.proofs.farm.Farm.prepare.Goals as goal

pub prepare-requires-clause-condition : goal.prepare-requires-clause-condition
prepare-requires-clause-condition c = subst (λ (f : Farm). HasCondition f c.args.entry.now.act) (sym c.self.view_is) c.requires.condition

pub returns-in_err-act : goal.returns-in_err-act
returns-in_err-act c =
    let e = c.args.entry.now in
    subst (λ (f : Farm). Prepares f e c.from_residual.result) c.self.view_is (act_fails c.self.inside.books.farm e _ c.from_residual.result c.from_residual.ensures.1 c.in_err-act.ensures)

pub returns-in_err-change : goal.returns-in_err-change
returns-in_err-change c =
    let e = c.args.entry.now in
    subst (λ (f : Farm). Prepares f e c.from_residual-in_err-change.result) c.self.view_is (plan_fails c.self.inside.books.farm e _ c.from_residual-in_err-change.result c.from_residual-in_err-change.ensures.1 c.in_err-change.ensures.prepared)

pub put_rows-requires-clause-planned : goal.put_rows-requires-clause-planned
put_rows-requires-clause-planned c = subst (λ (f : Farm). Plans f c.args.entry.now c.in_ok-change.change) c.self.view_is c.in_ok-change.ensures.prepared

pub put_rows-requires-clause-rows : goal.put_rows-requires-clause-rows
put_rows-requires-clause-rows c =
    subst (λ (f : Farm). (k : RowKey) → row_at (after_change f c.in_ok-change.change) k ≡ row_after c.in_ok-rows.rows.items k (row_at f k)) c.self.view_is c.in_ok-rows.ensures
