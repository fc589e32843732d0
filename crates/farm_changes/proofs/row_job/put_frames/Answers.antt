use Rattle.std.proofs.Common.{◌≡◌, ◌∙◌, ◌∷◌, ◌++◌, ◌+◌, ◌-◌, ◌≤◌, ℕ, List, drop, length, take, refl, sym, ap, arith, append_assoc, append-nil}
use Rattle.std.proofs.lemmas.List.{drop_all, drop_more, take_all}
use Rattle.std.specs.Prelude.{ℤ}
use Rattle.farm_types.specs.declared.job.LayerSpec.{LayerSpec}
use Rattle.farm_types.specs.Jobs.{frames_from, frames_in, frames_of}
use Rattle.farm_rows.specs.declared.row_change.RowChange.{RowChange}
use Rattle.job_book.specs.Lowest.{lowest_free}
use Rattle.job_book.proofs.PlacementLemmas.FreePlaces.{cut, frames_more, piece_long}
use Rattle.job_book.proofs.PlacementLemmas.FreeSlots.{length-lowest_free}
use Rattle.job_book.proofs.PlacementLemmas.Putting.{enough_for, length-frames_from, length-frames_of}
use Rattle.farm_changes.specs.RowChanges.{rows_put}
use Rattle.farm_changes.proofs.FramesPut.{rows_all, rows_put-append}
use Rattle.farm_changes.proofs.row_job.put_frames.Goals as goal

pub slice_bounds-put_layer-end : goal.slice_bounds-put_layer-end
slice_bounds-put_layer-end c =
    let layers = c.args.layers.now in
    let enough = enough_for layers c.loop-place.place c.index-layers-place.result (omega arith) c.index-layers-place.is in
    let count = ap length c.requires.places ∙ length-lowest_free 0 c.args.slots.now (frames_in layers) in
    omega (arith, c.loop-place.invariant.so_far, c.len.ensures, enough, count)

pub put_layer-requires-clause-count : goal.put_layer-requires-clause-count
put_layer-requires-clause-count c =
    let layers = c.args.layers.now in
    let i = c.loop-place.place in
    let done = c.loop-place.done in
    let enough = enough_for layers i c.index-layers-place.result (omega arith) c.index-layers-place.is in
    let count = ap length c.requires.places ∙ length-lowest_free 0 c.args.slots.now (frames_in layers) in
    piece_long done c.len.result (done + c.len.result) c.args.places.now refl (omega (arith, c.loop-place.invariant.so_far, c.len.ensures, enough, count))
    ∙ c.len.ensures ∙ sym (ap length c.as_slice.ensures)

pub loop-place-init : goal.loop-place-init
loop-place-init c = record { rows = refl; so_far = refl }

pub loop-place-preserved : goal.loop-place-preserved
loop-place-preserved c =
    let slots = c.args.slots.now in
    let places = c.args.places.now in
    let layers = c.args.layers.now in
    let job = c.args.job in
    let h = c.loop-place.invariant in
    let i = c.loop-place.place in
    let done = c.loop-place.done in
    let layer = c.index-layers-place.result in
    let old = c.loop-place.into.items in
    let end = done + c.len.result in
    let piece = take (end - done) (drop done places) in
    let enough = enough_for layers i layer (omega arith) c.index-layers-place.is in
    let count = ap length c.requires.places ∙ length-lowest_free 0 slots (frames_in layers) in
    let within : end ≤ length places = omega (arith, h.so_far, c.len.ensures, enough, count) in
    let split = cut done c.len.result end places refl in
    let these = frames_from job i 0 layer.numbers in
    let long : length piece ≡ length these = piece_long done c.len.result end places refl within ∙ c.len.ensures ∙ sym (length-frames_from job i 0 layer.numbers) in
    let layered : drop i layers ≡ layer ∷ drop (i + 1) layers = drop_more layers i layer (omega arith) ∙ ap (λ (l : LayerSpec). l ∷ drop (i + 1) layers) (sym c.index-layers-place.is) in
    let later = frames_of job (i + 1) (drop (i + 1) layers) in
    let rest = rows_put slots (drop end places) later in
    let new : c.put_layer.new.into.items ≡ old ++ rows_put slots piece these = c.in_ok-put_layer.ensures ∙ ap (λ (ns : List ℤ). old ++ rows_put slots piece (frames_from job i 0 ns)) c.as_slice.ensures in
    record {
      rows = ap (λ (cs : List RowChange). cs ++ rest) new ∙ append_assoc old (rows_put slots piece these) rest
          ∙ ap (λ (cs : List RowChange). old ++ cs) (sym (rows_put-append slots piece (drop end places) these later long))
          ∙ sym (λ j. old ++ rows_put slots (split j) (frames_of job i (layered j))) ∙ h.rows;
      so_far = omega (arith, frames_more layers i layer (omega arith) c.index-layers-place.is, h.so_far, c.len.ensures);
    }

pub returns : goal.returns
returns c =
    let slots = c.args.slots.now in
    let places = c.args.places.now in
    let layers = c.args.layers.now in
    let job = c.args.job in
    let h = c.loop-place.invariant in
    let all = ap frames_in (take_all c.loop-place.place layers (omega arith)) in
    let count = ap length c.requires.places ∙ length-lowest_free 0 slots (frames_in layers) in
    let none = drop_all c.loop-place.done places (omega (arith, count, h.so_far, all)) in
    let found = c.requires.places ∙ ap (lowest_free 0 slots) (sym (length-frames_of job 0 layers)) in
    sym (append-nil c.loop-place.into.items)
    ∙ sym (ap (λ (ns : List ℕ). c.loop-place.into.items ++ rows_put slots ns (frames_of job c.loop-place.place (drop c.loop-place.place layers))) none)
    ∙ h.rows ∙ ap (λ (cs : List RowChange). c.args.into.now.items ++ cs) (rows_all slots places (frames_of job 0 layers) found)
