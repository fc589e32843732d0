use Rattle.std.proofs.Common.{◌∙◌, ℕ, List, length, ap, sym}
use Rattle.farm_types.specs.declared.depend.DependRow.{DependRow}
use Rattle.farm_types.specs.declared.depend.Group.{Group}
use Rattle.stored_rows.specs.Told.{Told}
use Rattle.stored_farm.specs.Judged.{passes, takes_depend}
use Rattle.stored_farm.specs.Kept.{groups_kept}
use Rattle.stored_farm.proofs.Changes.{left_said}
use Rattle.stored_farm.proofs.JudgedSame.{depend_judged, kept_beside}
use Rattle.stored_farm.proofs.stored_farm.StoredFarm.depend_fits.Goals as goal

pub returns : goal.returns
returns c =
    let d = c.args.depend.now in
    let a = c.self.inside in
    let f = a.rows.farm in
    let ds = a.depends.items in
    let ms = a.met.items in
    let own = c.requires ∙ (ap (λ (t : Told). groups_kept t.farm d) (sym c.self.view_is) ∙ kept_beside f ds ms d) in
    c.in_ok-fits.ensures
    ∙ (ap (λ (n : ℕ). passes f n a.left d c.args.groups.now) (ap (λ (xs : List DependRow). length xs) c.as_slice-depends.ensures.value)
    ∙ (ap (λ (gs : List Group). passes f (length ds) a.left d gs) own
    ∙ (depend_judged f c.kept.ensures ds ms a.left (left_said a.rows a.last ds a.groups.items ms a.left c.self.invariant) d
    ∙ ap (λ (t : Told). takes_depend t.farm d) c.self.view_is)))
