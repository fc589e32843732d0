-- The farm of a keeper's rows is kept by it.
use Rattle.std.proofs.Common.{◌≡◌, List, [], inl, inr, sym, ap, ◌∙◌, subst, arith}
use Rattle.std.specs.List.{Any}
use Rattle.farm_types.specs.Farm.{Farm}
use Rattle.farm_rows.specs.declared.head_row.TheConstants.{ROW_FORMAT}
use Rattle.farm_keeper.specs.declared.row.Batch.{Batch}
use Rattle.farm_keeper.specs.declared.row.Row.{Row}
use Rattle.farm_keeper.specs.Keeping.{MayRemain}
use Rattle.farm_keeper.specs.Memory.{Kept}
use Rattle.farm_keeper.specs.Rows.{Lists, Rows, rows_from}
use Rattle.farm_keeper.specs.Rows as batched
use Rattle.farm_keeper.proofs.RowLaws.{Lists-from}
use Rattle.recovery.specs.Recovered.{spelled_rows}
use Rattle.store_law.specs.Stored.{stored, stored_in}
use Rattle.recorder_start.specs.Keeping.{IsKeptBy}

none_any : {X : Type 0} (P : X → Type 0) → Any P [] → ⊥
none_any P (k, x, within, is, holds) = omega (arith, within)

remains_rows : (rows other : Rows) → MayRemain rows [] other → other ≡ rows
remains_rows rows other (inl is) = is
remains_rows rows other (inr one) = absurd (none_any (λ (b : Batch). other ≡ batched.after b rows) one)

-- the rows of a farm whose spelling is the list are those of the list
stored_of : (list : List Row) (rows : Rows) (f : Farm) → Lists list rows → spelled_rows ROW_FORMAT f ≡ list → stored f ≡ rows
unfolding stored_in
stored_of list rows f lists is = ap rows_from is ∙ Lists-from list rows lists

-- a keeper that refused nothing
pub kept_by : (k : Kept) (list : List Row) (f : Farm) → k.refused ≡ [] → Lists list k.rows → spelled_rows ROW_FORMAT f ≡ list → IsKeptBy f k
kept_by k list f none lists is =
    let same = stored_of list k.rows f lists is in
    record {
      held = same;
      remains = λ other there. inl (remains_rows k.rows other (subst (λ (bs : List Batch). MayRemain k.rows bs other) none there) ∙ sym same);
    }
