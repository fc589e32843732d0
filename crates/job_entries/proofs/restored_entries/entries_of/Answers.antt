use Rattle.std.proofs.Common.{◌≡◌, ◌∙◌, ◌++◌, ◌∷◌, ◌+◌, [], ℕ, List, take, drop, refl, sym, ap, subst, arith, rules}
use Rattle.std.specs.Vec.{vec_capacity}
use Rattle.std.specs.Vec.Iter.{into_iter_items}
use Rattle.std.proofs.lemmas.Option.{get_or_from_slice_get}
use Rattle.farm_types.specs.declared.rows.JobRow.{JobRow}
use Rattle.farm_types.specs.declared.rows.LayerRow.{LayerRow}
use Rattle.job_entries.specs.declared.entries.Place.{Place}
use Rattle.job_index.specs.Places.{LayerPlaces}
use Rattle.job_entries.specs.Restored.{all_in, own_count, place_with}
use Rattle.job_entries.proofs.RestoredEntries.{IsPart, keeps_all, next_part, no_part, none_left}
use Rattle.job_entries.proofs.restored_entries.entries_of.Goals as goal

pub loop-row-init : goal.loop-row-init
loop-row-init c =
    let all = all_in c.args.rows.items c.args.counts.now c.args.layers.items c.args.index.items c.args.next in
    let rows : into_iter_items c.into_iter-row-iterator.result ≡ c.args.rows.items = search rules in
    let layers : c.from-layers.result.items ≡ c.args.layers.items = search rules in
    let index : c.from-index.result.items ≡ c.args.index.items = search rules in
    let places : c.in_ok-places.places.items ≡ [] = c.in_ok-places.ensures.items in
    record {
      part = rw (places, rows, layers, index) (no_part all c.requires.rise c.requires.owned c.requires.counts c.requires.index refl);
      room = c.in_ok-places.ensures.capacity;
    }

pub loop-row-preserved : goal.loop-row-preserved
loop-row-preserved c =
    let l = c.loop-row in
    let row = c.in-Some.row in
    let others = into_iter_items c.next.new.self in
    let all = all_in c.args.rows.items c.args.counts.now c.args.layers.items c.args.index.items c.args.next in
    let rest : into_iter_items l.row-iterator ≡ row ∷ others = search rules in
    let part = subst (λ (rs : List JobRow). IsPart all l.places.items l.at rs l.layers.items l.index.items) rest l.invariant.part in
    let count : c.count_own-count.result ≡ own_count row.job l.layers.items = c.count_own-count.ensures.value in
    let one = c.counts_at.result.now in
    let here = sym (get_or_from_slice_get c.args.counts.now l.at one one c.counts_at.ensures) in
    let own : c.in_ok-own.own.items ≡ take (own_count row.job l.layers.items) l.layers.items = c.in_ok-own.ensures.taken ∙ ap (λ (n : ℕ). take n l.layers.items) count in
    let frames : c.in_ok-frames.frames.items ≡ take (own_count row.job l.layers.items) l.index.items = c.in_ok-frames.ensures.taken ∙ ap (λ (n : ℕ). take n l.index.items) count in
    let behind : c.take_front.new.items.items ≡ drop (own_count row.job l.layers.items) l.layers.items = c.in_ok-own.ensures.left ∙ ap (λ (n : ℕ). drop n l.layers.items) count in
    let left : c.take_front-in-loop-row.new.items.items ≡ drop (own_count row.job l.layers.items) l.index.items = c.in_ok-frames.ensures.left ∙ ap (λ (n : ℕ). drop n l.index.items) count in
    let pushed : c.push.new.self.items ≡ l.places.items ++ c.place_with.result ∷ [] = search rules in
    let new = pushed ∙ ap (λ (p : Place). l.places.items ++ p ∷ []) (c.place_with.ensures ∙ (λ i. place_with row one (own i) (frames i))) in
    let next = next_part all l.places.items l.at row others l.layers.items l.index.items part one here c.push.new.self.items new in
    record {
      part = subst (λ (ls : List LayerRow). IsPart all c.push.new.self.items (l.at + 1) others ls c.take_front-in-loop-row.new.items.items) (sym behind)
          (subst (λ (xs : List LayerPlaces). IsPart all c.push.new.self.items (l.at + 1) others (drop (own_count row.job l.layers.items) l.layers.items) xs) (sym left) next);
      room = omega (arith, c.in_ok-push.ensures.capacity, l.invariant.room);
    }

pub invariant_of-result : goal.invariant_of-result
invariant_of-result c =
    let l = c.loop-row in
    let all = all_in c.args.rows.items c.args.counts.now c.args.layers.items c.args.index.items c.args.next in
    let done = none_left (into_iter_items l.row-iterator) (omega (arith, c.in-None.ensures.steps.0)) in
    keeps_all all l.places.items l.at (into_iter_items l.row-iterator) l.layers.items l.index.items l.invariant.part done (vec_capacity l.places) l.invariant.room
