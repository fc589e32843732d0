-- What rows of layers keep of what is known.
use Rattle.std.proofs.Common.{◌≡◌, ◌≤◌, ℕ, ◌+◌, true, eqb, ltb, List, [], ◌∷◌, ◌++◌, length, map, take, drop, suc, zero, None, refl, sym, ap, subst, ◌∙◌, arith}
use Rattle.std.specs.Prelude.{ℤ, replicate}
use Rattle.std.specs.List.{list_all, sum_by}
use Rattle.std.proofs.lemmas.Bool.{le-leb}
use Rattle.std.proofs.lemmas.List.{map_push}
use Rattle.std.proofs.lemmas.List.Sums.{sum_by-cons}
use Rattle.frame_range.specs.declared.section.Section.{Section}
use Rattle.frame_range.specs.Sets.{numbers_of}
use Rattle.farm_types.specs.declared.limits.TheConstants.{MOST_FRAMES, MOST_LAYERS}
use Rattle.farm_types.specs.declared.rows.LayerRow.{LayerRow}
use Rattle.farm_types.specs.declared.slot_row.SlotRow.{SlotRow}
use Rattle.farm_types.specs.Farm.{Farm, layers_of}
use Rattle.farm_types.specs.Forms.{is_name_text}
use Rattle.farm_types.specs.Kept.{frames_said, is_formed_layer, is_of_pending}
use Rattle.farm_types.specs.Ranges.{range_numbers}
use Rattle.farm_types.specs.Rising.{job_key, layer_key}
use Rattle.farm_types.proofs.Lists.{and_both}
use Rattle.farm_rows.specs.declared.farm_row.FarmRow.TheVariants as row
use Rattle.farm_rows.specs.Recovery.{comes_after, layer_fits}
use Rattle.row_index.specs.Index.{HostsKnown, JobsKnown, LayerKnown, is_placed_below}
use Rattle.row_index.specs.Ranges.{IsRangeOf}
use Rattle.stored_rows.specs.Known.{KnowsTold, found_from, has_few_numbers, layer_known, slot_stands}
use Rattle.stored_rows.specs.Told.{Told, told_with}
use Rattle.stored_rows.proofs.Kept.{all_push, slots_none}
use Rattle.stored_rows.proofs.Until.{rises_kept, rises_more, until_kept}

pub layer_below : (f : Farm) (r : LayerRow) → layer_fits f r ≡ true → is_placed_below r ≡ true
layer_below f r fits =
    let at = and_both (is_of_pending f.jobs r.job) _ fits in
    let formed = and_both (eqb r.place (length (layers_of f.layers r.job))) _ at.1 in
    let form = and_both (is_formed_layer r) _ formed.1 in
    (and_both (ltb r.place MOST_LAYERS) _ (and_both (is_name_text r.name) _ form.0).1).0

found_none : (l : LayerRow) (position : ℕ) (ns : List ℤ) → found_from [] l position ns ≡ replicate (length ns) None
found_none l position [] = refl
found_none l position (n ∷ ns) = ap (λ slots. None ∷ slots) (found_none l (position + 1) ns)

known_none : (r : LayerRow) (set : List Section) → IsRangeOf r.range set → layer_known [] r ≡ record { numbers = numbers_of set; slots = replicate (length (numbers_of set)) None }
known_none r set is = λ j. record { numbers = is.numbers j; slots = (found_none r 0 (range_numbers r.range) ∙ ap (λ (ns : List ℤ). replicate (length ns) None) is.numbers) j }

module _ (t : Told) (h : HostsKnown) (j : JobsKnown) (l : List LayerKnown) (k : KnowsTold t h j l) where
  -- after a layer
  pub layer_kept : (r : LayerRow) (set : List Section) → comes_after t.last (7, layer_key r) ≡ true → is_placed_below r ≡ true → IsRangeOf r.range set → length (numbers_of set) ≤ MOST_FRAMES
      → KnowsTold (told_with t (row.Layer r)) h j (l ++ record { numbers = numbers_of set; slots = replicate (length (numbers_of set)) None } ∷ [])
  layer_kept r set after placed is few =
      let none = slots_none t h j l k (7, layer_key r) (omega arith) after in
      let known : layer_known t.farm.slots r ≡ record { numbers = numbers_of set; slots = replicate (length (numbers_of set)) None } = ap (λ (ss : List SlotRow). layer_known ss r) none ∙ known_none r set is in
      record {
        of_subs = k.of_subs;
        of_hosts = k.of_hosts;
        of_jobs = k.of_jobs;
        jobs_rise = rises_kept job_key t.farm.jobs t.last (7, layer_key r) 6 after k.jobs_rise;
        of_layers = record {
          known = (λ i. k.of_layers.known i ++ sym known i ∷ []) ∙ sym (map_push (layer_known t.farm.slots) t.farm.layers r);
          places = all_push is_placed_below t.farm.layers r k.of_layers.places placed;
          numbers = all_push has_few_numbers t.farm.layers r k.of_layers.numbers (le-leb (length (range_numbers r.range)) MOST_FRAMES (subst (λ (ns : List ℤ). length ns ≤ MOST_FRAMES) (sym is.numbers) few));
        };
        layers_rise = rises_more layer_key t.farm.layers r t.last 7 after k.layers_rise;
        of_slots = record {
          few = k.of_slots.few;
          until = until_kept t.last (7, layer_key r) 8 (length t.farm.slots) after k.of_slots.until;
          stand = subst (λ (ss : List SlotRow). list_all (slot_stands (t.farm.layers ++ r ∷ [])) ss ≡ true) (sym none) refl;
        };
      }

-- ---- a part of what is known

drop_mapped : {X Y : Type 0} (f : X → Y) (n : ℕ) (xs : List X) → drop n (map f xs) ≡ map f (drop n xs)
drop_mapped f zero xs = refl
drop_mapped f (suc n) [] = refl
drop_mapped f (suc n) (x ∷ xs) = drop_mapped f n xs

take_mapped : {X Y : Type 0} (f : X → Y) (n : ℕ) (xs : List X) → take n (map f xs) ≡ map f (take n xs)
take_mapped f zero xs = refl
take_mapped f (suc n) [] = refl
take_mapped f (suc n) (x ∷ xs) = ap (λ ys. f x ∷ ys) (take_mapped f n xs)

pub part_mapped : {X Y : Type 0} (f : X → Y) (first count : ℕ) (xs : List X) → take count (drop first (map f xs)) ≡ map f (take count (drop first xs))
part_mapped f first count xs = ap (take count) (drop_mapped f first xs) ∙ take_mapped f count (drop first xs)

pub sum_known : (slots : List SlotRow) (ls : List LayerRow) → sum_by (λ (k : LayerKnown). length k.numbers) (map (layer_known slots) ls) ≡ frames_said ls
sum_known slots [] = refl
sum_known slots (l ∷ ls) =
    omega (arith, sum_by-cons (λ (k : LayerKnown). length k.numbers) (layer_known slots l) (map (layer_known slots) ls), sum_by-cons (λ (m : LayerRow). length (range_numbers m.range)) l ls, sum_known slots ls)
