use Rattle.std.proofs.Common.{◌∙◌, ℕ, eqb, length, ltb, ap}
use Rattle.farm_types.specs.declared.depend.Group.{Group}
use Rattle.stored_farm.proofs.Lookups.{any_by_place}
use Rattle.stored_farm.proofs.marks.has_position.Goals as goal

pub returns : goal.returns
returns c =
    ap (λ (place : ℕ). ltb place (length c.args.groups.now)) c.place_at.ensures
    ∙ any_by_place (λ (g : Group). eqb g.position c.args.position) c.args.groups.now
