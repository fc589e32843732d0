use Rattle.std.proofs.Common.{◌∙◌, ap, sym}
use Rattle.std.specs.Prelude.{is_some}
use Rattle.farm_rows.specs.Recovery.{end_fault}
use Rattle.stored_rows.specs.Told.{Told, early_fault}
use Rattle.stored_farm.proofs.EndsSame.{early_first, no_early}
use Rattle.stored_farm.proofs.stored_farm.StoredFarm.end_fault.Goals as goal

pub returns-then-is_some : goal.returns-then-is_some
returns-then-is_some c =
    let a = c.self.inside in
    let early = c.end_fault-early.ensures in
    early ∙ (early_first a.rows.farm a.depends.items a.met.items (ap is_some (sym early) ∙ (sym c.is_some.ensures ∙ c.if-is_some.true)) ∙ ap (λ (t : Told). end_fault t.farm) c.self.view_is)

pub depend_fault-requires : goal.depend_fault-requires
depend_fault-requires c =
    let a = c.self.inside in
    let none = ap is_some (sym c.end_fault-early.ensures) ∙ (sym c.is_some.ensures ∙ c.if-is_some.false) in
    sym (ap (λ (t : Told). early_fault t.farm) c.self.view_is) ∙ no_early a.rows.farm a.depends.items a.met.items none
