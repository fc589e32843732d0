use Rattle.std.proofs.Common.{◌≡◌, ◌∙◌, length, map, sym, ap, true}
use Rattle.std.specs.List.{concat, list_all}
use Rattle.farm_types.specs.declared.job.LayerSpec.{LayerSpec}
use Rattle.farm_types.specs.Jobs.{frames_in}
use Rattle.job_book.specs.Inside.{is_below}
use Rattle.job_book.specs.Lowest.{lowest_free}
use Rattle.job_book.proofs.PlacementLemmas.FreePlaces.{new_found}
use Rattle.job_book.proofs.PlacementLemmas.FreeSlots.{length-lowest_free}
use Rattle.job_book.proofs.jobs.Jobs.places_for.Goals as goal

pub layer_by_layer-requires : goal.layer_by_layer-requires
layer_by_layer-requires c =
    ap length (c.as_slice.ensures ∙ c.in_ok-places.ensures) ∙ length-lowest_free 0 c.args.self.now.slots c.count_frames-count.result
    ∙ c.count_frames-count.ensures ∙ ap frames_in (sym c.as_slice-2.ensures)

pub returns-clause-found : goal.returns-clause-found
returns-clause-found c layer position =
    let book = c.args.self.now in
    let layers = c.args.layers.now in
    let lists = c.in_ok-lists.lists in
    let below : list_all (is_below book.next_job) book.slots ≡ true = c.kept.ensures.lists.frames_below in
    let went : concat lists ≡ lowest_free 0 book.slots (frames_in layers) =
    c.in_ok-lists.ensures.places ∙ c.as_slice.ensures ∙ c.in_ok-places.ensures ∙ ap (lowest_free 0 book.slots) c.count_frames-count.ensures in
    new_found book.slots book.next_job layers lists below went (c.in_ok-lists.ensures.counts ∙ ap (map (λ (l : LayerSpec). length l.numbers)) c.as_slice-2.ensures) layer position
