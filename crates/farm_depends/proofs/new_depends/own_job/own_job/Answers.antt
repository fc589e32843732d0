use Rattle.std.proofs.Common.{◌≡◌, ◌∙◌, ℕ, List, length, ap, subst}
use Rattle.farm_types.specs.declared.depend.LayerShape.{LayerShape}
use Rattle.farm_types.specs.declared.depend.Shape.{Shape}
use Rattle.farm_types.specs.declared.job.LayerSpec.{LayerSpec}
use Rattle.farm_types.specs.Farm.{is_placed, slot_from}
use Rattle.farm_types.specs.Jobs.{JobLists, frames_of, place_frames}
use Rattle.job_book.specs.Layers.{place_in}
use Rattle.farm_depends.specs.Placed.{own_shapes, placed}
use Rattle.farm_depends.proofs.ComingLemmas.PlacedFarm.{own_shape_is, placed_is}
use Rattle.farm_depends.proofs.new_depends.own_job.own_job.Goals as goal

abbrev as_shape : List LayerShape → Shape
as_shape ls = record { layers = ls }

pub returns : goal.returns
returns c =
    let f = c.args.books.now.farm in
    let spec = c.args.spec.now in
    let lists = c.in_ok-places.places in
    let found =
    subst (λ (b : JobLists). (layer position : ℕ) → slot_from 0 (is_placed b.next_job layer position) (place_frames b.slots (frames_of b.next_job 0 spec.layers)) ≡ place_in lists layer position)
    c.jobs-2.ensures c.in_ok-places.ensures.found in
    let layers : c.in_ok-layers.layers ≡ own_shapes spec.layers lists =
    c.in_ok-layers.ensures ∙ (ap (λ (ls : List LayerSpec). own_shapes ls c.as_slice-2.result.now) c.as_slice.ensures ∙ ap (own_shapes spec.layers) c.as_slice-2.ensures) in
    record {
      number = c.next_number-number.ensures.value ∙ ap (λ (b : JobLists). b.next_job) c.jobs.ensures;
      shape_is = ap as_shape layers
          ∙ own_shape_is f spec (placed f spec) (placed_is f spec c.requires.accepted) (length f.shows) c.requires.rows.jobs c.requires.formed.each_layer lists found c.in_ok-places.ensures.counts;
    }
