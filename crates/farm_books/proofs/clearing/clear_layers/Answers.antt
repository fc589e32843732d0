use Rattle.std.proofs.Common.{◌≡◌, ◌∙◌, ◌+◌, ◌++◌, ◌∷◌, [], List, false, take, sym, ap, subst, arith}
use Rattle.std.proofs.lemmas.List.{take_all, take_more}
use Rattle.farm_types.specs.declared.rows.LayerRow.{LayerRow}
use Rattle.farm_books.specs.Cleared.{IsCleared, is_in_layer, is_in_layers}
use Rattle.farm_books.proofs.Clears.{cleared_as, cleared_none, cleared_then, layers_more, layers_none}
use Rattle.farm_books.proofs.clearing.clear_layers.Goals as goal

pub loop-layer-init : goal.loop-layer-init
loop-layer-init c = cleared_as (λ n. false) (is_in_layers c.args.jobs.now.slots c.args.job []) c.args.depends.now c.args.depends.now (cleared_none c.args.depends.now) (layers_none c.args.jobs.now.slots c.args.job)

pub loop-layer-preserved : goal.loop-layer-preserved
loop-layer-preserved c =
    let l = c.loop-layer in
    let layers = c.args.layers.now in
    let layer = c.layer-item.result in
    let slots = c.args.jobs.now.slots in
    let job = c.args.job in
    let more : take (l.layer-index + 1) layers ≡ take l.layer-index layers ++ layer ∷ [] = take_more layers l.layer-index layer (omega arith) ∙ ap (λ (r : LayerRow). take l.layer-index layers ++ r ∷ []) (sym c.layer-item.is) in
    subst (λ (ls : List LayerRow). IsCleared (is_in_layers slots job ls) c.args.depends.now c.clear_layer.new.depends) (sym more)
    (cleared_then (is_in_layers slots job (take l.layer-index layers)) (is_in_layer slots job layer.place) (is_in_layers slots job (take l.layer-index layers ++ layer ∷ [])) c.args.depends.now l.depends c.clear_layer.new.depends l.invariant c.clear_layer.ensures (layers_more slots job (take l.layer-index layers) layer))

pub returns : goal.returns
returns c =
    let l = c.loop-layer in
    subst (λ (ls : List LayerRow). IsCleared (is_in_layers c.args.jobs.now.slots c.args.job ls) c.args.depends.now l.depends) (take_all l.layer-index c.args.layers.now (omega arith)) l.invariant
