use Rattle.std.proofs.Common.{◌≡◌, ◌∙◌, ◌∷◌, ◌++◌, ◌+◌, ◌-◌, ◌<◌, ◌≤◌, ℕ, List, drop, length, map, take, refl, sym, ap, subst, arith}
use Rattle.std.specs.List.{concat}
use Rattle.std.proofs.lemmas.List.{drop_all, drop_more, length-map, take_all}
use Rattle.farm_types.specs.declared.job.LayerSpec.{LayerSpec}
use Rattle.farm_types.specs.declared.slot_row.SlotRow.{SlotRow}
use Rattle.farm_types.specs.Jobs.{frames_from, frames_in, frames_of}
use Rattle.job_book.specs.Layers.{count_of, marks_of, slots_of}
use Rattle.job_book.specs.Lowest.{AreNext, filled}
use Rattle.job_index.specs.Places.{LayerPlaces}
use Rattle.job_book.proofs.PlacementLemmas.FreePlaces.{cut, frames_more, piece_long, take-add}
use Rattle.job_book.proofs.PlacementLemmas.FreeSlots.{filled-append, next_back, next_front}
use Rattle.job_book.proofs.PlacementLemmas.LayerLists.{concat-more, count_at, fresh_counts, map-set_kept}
use Rattle.job_book.proofs.PlacementLemmas.Putting.{enough_for, length-frames_from}
use Rattle.job_book.proofs.placement.put.put_layers.Goals as goal

pub put_layer-requires-clause-next : goal.put_layer-requires-clause-next
put_layer-requires-clause-next c =
    let places = c.args.places.now in
    let done = c.loop-place.done in
    let split = cut done c.len.result (done + c.len.result) places refl in
    next_front _ _ _ (subst (λ (ns : List ℕ). AreNext ns (length c.loop-place.slots.items)) split c.loop-place.invariant.next)

pub put_layer-requires-clause-count : goal.put_layer-requires-clause-count
put_layer-requires-clause-count c =
    let layers = c.args.layers.now in
    let i = c.loop-place.place in
    let done = c.loop-place.done in
    let enough = enough_for layers i c.index-layers-place.result (omega arith) c.index-layers-place.is in
    piece_long done c.len.result (done + c.len.result) c.args.places.now refl (omega (arith, c.loop-place.invariant.so_far, c.len.ensures, enough, c.requires.count))
    ∙ c.len.ensures ∙ sym (ap length c.as_slice.ensures)

pub put_layer-requires-clause-long : goal.put_layer-requires-clause-long
put_layer-requires-clause-long c =
    count_at c.loop-place.index.items c.args.layers.now c.loop-place.place c.index_mut.result.now c.index-layers-place.result c.loop-place.invariant.lengths (omega arith) c.index_mut.ensures.value c.index-layers-place.is
    ∙ sym (ap length c.as_slice.ensures)

pub loop-place-init : goal.loop-place-init
loop-place-init c =
    record {
      filled = refl;
      next = c.requires.next;
      so_far = refl;
      places = refl;
      lengths = ap (map count_of) c.requires.index ∙ fresh_counts c.args.layers.now;
      marks = refl;
      capacity = refl;
    }

pub loop-place-preserved : goal.loop-place-preserved
loop-place-preserved c =
    let places = c.args.places.now in
    let layers = c.args.layers.now in
    let job = c.args.job in
    let h = c.loop-place.invariant in
    let i = c.loop-place.place in
    let done = c.loop-place.done in
    let layer = c.index-layers-place.result in
    let slots = c.loop-place.slots.items in
    let index = c.loop-place.index.items in
    let end = done + c.len.result in
    let piece = take (end - done) (drop done places) in
    let numbers : c.as_slice.result.now ≡ layer.numbers = c.as_slice.ensures in
    let enough = enough_for layers i layer (omega arith) c.index-layers-place.is in
    let within : end ≤ length places = omega (arith, h.so_far, c.len.ensures, enough, c.requires.count) in
    let split = cut done c.len.result end places refl in
    let long : length piece ≡ length (frames_from job i 0 layer.numbers) = piece_long done c.len.result end places refl within ∙ c.len.ensures ∙ sym (length-frames_from job i 0 layer.numbers) in
    let layered : drop i layers ≡ layer ∷ drop (i + 1) layers = drop_more layers i layer (omega arith) ∙ ap (λ (l : LayerSpec). l ∷ drop (i + 1) layers) (sym c.index-layers-place.is) in
    let later = frames_of job (i + 1) (drop (i + 1) layers) in
    let new : c.put_layer.new.slots.items ≡ filled piece (frames_from job i 0 layer.numbers) slots =
    c.put_layer.ensures.slots ∙ ap (λ (ns : List _). filled piece (frames_from job i 0 ns) slots) numbers in
    let counted = sym (length-map index count_of) ∙ ap length h.lengths ∙ length-map layers (λ (k : LayerSpec). length k.numbers) in
    let inside : i < length index = omega (arith, counted) in
    let old = c.index_mut.result.now in
    let frames = c.put_layer.new.frames in
    let same_long : length frames.slots ≡ length old.slots =
    ap length c.put_layer.ensures.places ∙ piece_long done c.len.result end places refl within ∙ c.len.ensures ∙ sym (count_at index layers i old layer h.lengths (omega arith) c.index_mut.ensures.value c.index-layers-place.is) in
    let size : end - done ≡ c.len.result = omega arith in
    record {
      filled = ap (λ (ss : List SlotRow). filled (drop end places) later ss) new ∙ sym (filled-append piece (drop end places) (frames_from job i 0 layer.numbers) later slots long)
          ∙ sym (λ j. filled (split j) (frames_of job i (layered j)) slots) ∙ h.filled;
      next = subst (λ (ss : List SlotRow). AreNext (drop end places) (length ss)) (sym new)
          (next_back piece (drop end places) (frames_from job i 0 layer.numbers) slots long (subst (λ (ns : List ℕ). AreNext ns (length slots)) split h.next));
      so_far = omega (arith, frames_more layers i layer (omega arith) c.index-layers-place.is, h.so_far, c.len.ensures);
      places = concat-more index i frames inside ∙ ap (λ (ns : List ℕ). ns ++ frames.slots) h.places ∙ ap (λ (ns : List ℕ). take done places ++ ns) (c.put_layer.ensures.places ∙ ap (λ (n : ℕ). take n (drop done places)) size)
          ∙ sym (take-add done c.len.result places);
      lengths = map-set_kept count_of index i old frames c.index_mut.ensures.value same_long ∙ h.lengths;
      marks = map-set_kept marks_of index i old frames c.index_mut.ensures.value c.put_layer.ensures.marks ∙ h.marks;
      capacity = c.put_layer.ensures.capacity ∙ h.capacity;
    }

pub returns-clause-slots : goal.returns-clause-slots
returns-clause-slots c =
    let places = c.args.places.now in
    let layers = c.args.layers.now in
    let h = c.loop-place.invariant in
    let all = ap frames_in (take_all c.loop-place.place layers (omega arith)) in
    let none = drop_all c.loop-place.done places (omega (arith, c.requires.count, h.so_far, all)) in
    sym (ap (λ (ns : List ℕ). filled ns (frames_of c.args.job c.loop-place.place (drop c.loop-place.place layers)) c.loop-place.slots.items) none) ∙ h.filled

pub returns-clause-places : goal.returns-clause-places
returns-clause-places c =
    let places = c.args.places.now in
    let layers = c.args.layers.now in
    let index = c.loop-place.index.items in
    let h = c.loop-place.invariant in
    let all = ap frames_in (take_all c.loop-place.place layers (omega arith)) in
    let long = sym (length-map index count_of) ∙ ap length h.lengths ∙ length-map layers (λ (k : LayerSpec). length k.numbers) in
    ap (λ (xs : List LayerPlaces). concat (map slots_of xs)) (sym (take_all c.loop-place.place index (omega (arith, long)))) ∙ h.places ∙ take_all c.loop-place.done places (omega (arith, c.requires.count, h.so_far, all))
