use Rattle.std.proofs.Common.{◌≡◌, ◌∙◌, ◌+◌, ◌++◌, ◌∷◌, [], List, nat_eq, take, sym, ap, subst, arith}
use Rattle.std.proofs.lemmas.List.{take_all, take_more}
use Rattle.farm_types.specs.declared.rows.LayerRow.{LayerRow}
use Rattle.indexmap.specs.IndexMap.{get}
use Rattle.farm_finish.specs.Adding.{AddsFrames}
use Rattle.farm_books.specs.Cleared.{is_in_layer, is_in_layers}
use Rattle.farm_finish.proofs.RowLemmas.AddedFrames.{adds_none, adds_then}
use Rattle.farm_books.proofs.Clears.{layers_more, layers_none}
use Rattle.farm_finish.proofs.rows_gone.layers_free.Goals as goal

pub loop-layer-init : goal.loop-layer-init
loop-layer-init c = adds_none c.args.book.now.slots (get nat_eq c.args.versions.now) (is_in_layers c.args.book.now.slots c.args.job []) c.args.changes.now.items (λ n. sym (layers_none c.args.book.now.slots c.args.job n))

pub loop-layer-preserved : goal.loop-layer-preserved
loop-layer-preserved c =
    let l = c.loop-layer in
    let layers = c.args.layers.now in
    let layer = c.layer-item.result in
    let slots = c.args.book.now.slots in
    let job = c.args.job in
    let over = get nat_eq c.args.versions.now in
    let more : take (l.layer-index + 1) layers ≡ take l.layer-index layers ++ layer ∷ [] = take_more layers l.layer-index layer (omega arith) ∙ ap (λ (r : LayerRow). take l.layer-index layers ++ r ∷ []) (sym c.layer-item.is) in
    subst (λ (ls : List LayerRow). AddsFrames slots over (is_in_layers slots job ls) c.args.changes.now.items c.layer_free.new.changes.items) (sym more)
    (adds_then slots over (is_in_layers slots job (take l.layer-index layers)) (is_in_layer slots job layer.place) (is_in_layers slots job (take l.layer-index layers ++ layer ∷ [])) c.args.changes.now.items l.changes.items c.layer_free.new.changes.items l.invariant c.in_ok-layer_free.ensures (layers_more slots job (take l.layer-index layers) layer))

pub returns : goal.returns
returns c =
    let l = c.loop-layer in
    subst (λ (ls : List LayerRow). AddsFrames c.args.book.now.slots (get nat_eq c.args.versions.now) (is_in_layers c.args.book.now.slots c.args.job ls) c.args.changes.now.items l.changes.items) (take_all l.layer-index c.args.layers.now (omega arith)) l.invariant
