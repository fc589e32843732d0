use Rattle.std.proofs.Common.{◌∙◌, ap, sym}
use Rattle.stored_rows.specs.Told.{Told}
use Rattle.stored_farm.specs.Kept.{groups_kept}
use Rattle.stored_farm.proofs.JudgedSame.{kept_beside}
use Rattle.stored_farm.proofs.stored_farm.StoredFarm.groups_of.Goals as goal

pub returns : goal.returns
returns c =
    let d = c.args.depend.now in
    c.in_ok-groups.ensures
    ∙ (sym (kept_beside c.self.inside.rows.farm c.self.inside.depends.items c.self.inside.met.items d) ∙ ap (λ (t : Told). groups_kept t.farm d) c.self.view_is)
