use Rattle.std.proofs.Common.{◌≡◌, ◌∙◌, ◌∷◌, [], ◌++◌, List, Some, None, sym, ap}
use Rattle.std.specs.List.{find}
use Rattle.std.specs.Str.{bytes_eq}
use Rattle.farm_types.specs.declared.depend.LayerShape.{LayerShape}
use Rattle.farm_types.specs.declared.rows.LayerRow.{LayerRow}
use Rattle.farm_types.specs.Depends.{layer_shape}
use Rattle.farm_types.specs.Farm.{layers_of}
use Rattle.farm_places.proofs.ShownParts.{found_there, none_shown, one_shown}
use Rattle.farm_places.proofs.shapes.named_shape.Goals as goal

pub returns-in_default : goal.returns-in_default
returns-in_default c =
    let b = c.args.jobs.now in
    let name = c.args.name.now in
    let none : find (λ (l : LayerRow). bytes_eq l.name name) (layers_of b.layers c.args.job) ≡ None = ap (find (λ (l : LayerRow). bytes_eq l.name name)) (sym c.layers_of.ensures) ∙ sym c.in_default.ensures in
    none_shown b.layers b.slots c.args.job name (record { layers = c.new-layers.result }) c.new-layers.ensures none

pub layer_shape-requires-clause-there : goal.layer_shape-requires-clause-there
layer_shape-requires-clause-there c =
    let b = c.args.jobs.now in
    let name = c.args.name.now in
    found_there b c.args.job name c.in-Some.layer.now (ap (find (λ (l : LayerRow). bytes_eq l.name name)) (sym c.layers_of.ensures) ∙ sym c.in-Some.ensures)

pub returns : goal.returns
returns c =
    let b = c.args.jobs.now in
    let name = c.args.name.now in
    let found : find (λ (l : LayerRow). bytes_eq l.name name) (layers_of b.layers c.args.job) ≡ Some c.in-Some.layer.now = ap (find (λ (l : LayerRow). bytes_eq l.name name)) (sym c.layers_of.ensures) ∙ sym c.in-Some.ensures in
    let pushed : c.push.new.self ≡ layer_shape b.slots c.in-Some.layer.now ∷ [] =
    c.in_ok-push.ensures.ok ∙ (ap (λ (ls : List LayerShape). ls ++ c.in_ok-layer_shape.field-0 ∷ []) c.new-layers.ensures ∙ ap (λ (l : LayerShape). l ∷ []) c.in_ok-layer_shape.ensures) in
    one_shown b.layers b.slots c.args.job name (record { layers = c.push.new.self }) c.in-Some.layer.now pushed found
