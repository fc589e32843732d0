use Rattle.std.proofs.Common.{◌≡◌, List, [], sym, ap, ◌∙◌, subst}
use Rattle.std.proofs.lemmas.Result.{IfOk-weaker}
use Rattle.std.specs.Prelude.{Ok}
use Rattle.farm_types.specs.Farm.{Farm}
use Rattle.farm_rows.specs.declared.head_row.TheConstants.{ROW_FORMAT}
use Rattle.farm_keeper.specs.declared.row.Row.{Row}
use Rattle.farm_keeper.specs.Memory.{Kept}
use Rattle.farm_keeper.specs.Rows.{Lists, Rows}
use Rattle.recovery.specs.Recovered.{recovered}
use Rattle.recorder_start.specs.Keeping.{IsKeptBy}
use Rattle.recorder_start.proofs.Opens.{kept_by}
use Rattle.recorder_start.proofs.stored.load_farm.Goals as goal

pub returns-in-Ok : goal.returns-in-Ok
returns-in-Ok c =
    let exact = c.in-Ok.ensures.exact in
    let k = c.load.new.self in
    let list = c.as_slice.result.now in
    let none : k.refused ≡ [] = ap (λ (it : Kept). it.refused) exact.2 ∙ c.requires in
    let loaded : Lists c.in-Ok.rows k.rows = subst (λ (rows : Rows). Lists c.in-Ok.rows rows) (sym (ap (λ (it : Kept). it.rows) exact.2)) exact.1 in
    let lists = subst (λ (rows : List Row). Lists rows k.rows) (sym c.as_slice.ensures) loaded in
    IfOk-weaker c.farm_of.result (λ (f : Farm). recovered list ≡ Ok (record { farm = f; format = ROW_FORMAT })) (λ (f : Farm). IsKeptBy f k)
    (λ (f : Farm) is. kept_by k list f none lists (c.rows_recovered_are_the_farms.ensures.rows list _ is)) c.farm_of.ensures
