use Rattle.std.proofs.Common.{◌≡◌, ◌+◌, ◌-◌, ◌≤◌, ◌∙◌, ◌++◌, ◌∷◌, [], ℕ, List, length, map, take, drop, sym, ap, arith, length-drop}
use Rattle.std.specs.List.{concat}
use Rattle.std.proofs.lemmas.List.{length-take-le, take_more}
use Rattle.farm_types.specs.declared.job.LayerSpec.{LayerSpec}
use Rattle.job_book.proofs.PlacementLemmas.FreePlaces.{concat-push, frames_more, lengths_more, take-add}
use Rattle.job_book.proofs.PlacementLemmas.Putting.{enough_for}
use Rattle.job_book.proofs.placement.free_places.layer_by_layer.Goals as goal

pub loop-layer-preserved : goal.loop-layer-preserved
loop-layer-preserved c =
    let layers = c.args.layers.now in
    let i = c.loop-layer.layer-index in
    let layer = c.layer-item.result in
    let lists = c.loop-layer.lists in
    let first = c.loop-layer.first in
    let piece = take (first + c.len.result - first) (drop first c.args.places.now) in
    let pushed : c.push.new.self ≡ lists ++ piece ∷ [] = c.in_ok-push.ensures.ok ∙ ap (λ (ns : List ℕ). lists ++ ns ∷ []) (c.from_vec.ensures ∙ c.in_ok-from_slice.ensures.items) in
    let long : first + c.len.result - first ≡ c.len.result = omega arith in
    let more : take (i + 1) layers ≡ take i layers ++ layer ∷ [] = take_more layers i layer (omega arith) ∙ ap (λ (l : LayerSpec). take i layers ++ l ∷ []) (sym c.layer-item.is) in
    let within : c.loop-layer.first + c.len.result ≤ length c.args.places.now = omega (arith, enough_for layers i layer (omega arith) c.layer-item.is, c.loop-layer.invariant.so_far, c.len.ensures, c.requires) in
    let piece_long : length (take c.len.result (drop first c.args.places.now)) ≡ c.len.result = length-take-le c.len.result (drop first c.args.places.now) (omega (arith, length-drop first c.args.places.now, within)) in
    record {
      so_far = omega (arith, frames_more layers i layer (omega arith) c.layer-item.is, c.loop-layer.invariant.so_far, c.len.ensures);
      lists = ap concat pushed ∙ concat-push lists piece ∙ ap (λ (ns : List ℕ). ns ++ piece) c.loop-layer.invariant.lists ∙ ap (λ (n : ℕ). take first c.args.places.now ++ take n (drop first c.args.places.now)) long ∙ sym (take-add first c.len.result c.args.places.now);
      counts = ap (map (λ (ns : List ℕ). length ns)) pushed ∙ lengths_more lists piece layers i layer (omega arith) c.layer-item.is (ap length (ap (λ (n : ℕ). take n (drop first c.args.places.now)) long) ∙ piece_long ∙ c.len.ensures) c.loop-layer.invariant.counts;
    }
