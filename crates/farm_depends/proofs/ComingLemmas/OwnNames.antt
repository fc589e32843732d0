-- The name of a job's frame, read from the job's shape.
use Rattle.std.proofs.Common.{◌≡◌, ℕ, ℤ, zero, suc, Bool, true, false, cond, eqb, List, [], ◌∷◌, length, map, Option, Some, None, refl, sym, ap, ◌∙◌, ◌⊎◌, inl, inr, arith}
use Rattle.std.specs.List.{slice_get}
use Rattle.std.proofs.lemmas.Bool.{eq-eqb, eqb-true}
use Rattle.std.proofs.lemmas.Option.{none-some, same_Some}
use Rattle.farm_types.specs.declared.rows.LayerRow.{LayerRow}
use Rattle.farm_types.specs.DependActs.{frame_name_at, layer_name_of, name_of_frame, name_of_slot}
use Rattle.farm_types.specs.Depends.{layer_shape, shape_of, slots_placed}
use Rattle.farm_types.specs.Farm.{Farm, layers_of}
use Rattle.farm_types.specs.Groups.{all_slots}
use Rattle.farm_types.specs.Kept.{KeepsRows}
use Rattle.farm_types.specs.Names.{frame_name}
use Rattle.farm_types.specs.Ranges.{range_numbers}
use Rattle.farm_types.specs.Step.{lists_of}
use Rattle.farm_law.proofs.KeptJobsAdded.{in_either}
use Rattle.farm_depends.specs.Placed.{name_in, named_or, number_among}
use Rattle.farm_places.specs.Shapes.{AreLayers}
use Rattle.farm_places.proofs.KeptShapes.{length-placed, named_at}
use Rattle.farm_places.proofs.ShownParts.{layers_of_are}

-- ---- numbers by slots

-- a number that was found stands at the slot's place
pub record FoundNumber (slot : ℕ) (numbers : List ℤ) (slots : List ℕ) (n : ℤ) : Type 0 where
  pub place : ℕ
  pub slot_there : slice_get slots place ≡ Some slot
  pub number_there : slice_get numbers place ≡ Some n

found_step : (b : Bool) (slot s : ℕ) (m n : ℤ) (ns : List ℤ) (ss : List ℕ) → eqb s slot ≡ b → (number_among slot ns ss ≡ Some n → FoundNumber slot ns ss n) → cond b (Some m) (number_among slot ns ss) ≡ Some n → FoundNumber slot (m ∷ ns) (s ∷ ss) n
found_step true slot s m n ns ss is later found = record { place = 0; slot_there = ap Some (eqb-true s slot is); number_there = found }
found_step false slot s m n ns ss is later found =
    let r = later found in
    record { place = suc r.place; slot_there = r.slot_there; number_there = r.number_there }

found_number : (slot : ℕ) (numbers : List ℤ) (slots : List ℕ) (n : ℤ) → number_among slot numbers slots ≡ Some n → FoundNumber slot numbers slots n
found_number slot [] slots n found = absurd (none-some n found)
found_number slot (m ∷ ns) [] n found = absurd (none-some n found)
found_number slot (m ∷ ns) (s ∷ ss) n found = found_step (eqb s slot) slot s m n ns ss refl (found_number slot ns ss n) found

-- no number is found where the slot isn't among them
none_number : (slot : ℕ) (numbers : List ℤ) (slots : List ℕ) (k : ℕ) → length numbers ≡ length slots → slice_get slots k ≡ Some slot → number_among slot numbers slots ≡ None → ⊥
none_number slot numbers [] k long at none = none-some slot at
none_number slot [] (s ∷ ss) k long at none = absurd (omega arith)
none_number slot (n ∷ ns) (s ∷ ss) zero long at none =
    none-some n (sym none ∙ ap (λ (b : Bool). cond b (Some n) (number_among slot ns ss)) (eq-eqb s slot (same_Some s slot at)))
none_number slot (n ∷ ns) (s ∷ ss) (suc k) long at none = by (eqb s slot) none (none_number slot ns ss k (omega arith) at)
  where
    by : (b : Bool) → cond b (Some n) (number_among slot ns ss) ≡ None → (number_among slot ns ss ≡ None → ⊥) → ⊥
    by true is later = none-some n (sym is)
    by false is later = later is

-- ---- names

module _ (p : Farm) (rows : KeepsRows p) where
  named_here : (l : LayerRow) (place : ℕ) → slice_get p.layers place ≡ Some l → (slot k : ℕ) (n : ℤ) → slice_get (slots_placed p.slots l.job l.place 0 (range_numbers l.range)) k ≡ Some slot → slice_get (range_numbers l.range) k ≡ Some n
      → frame_name n l.name ≡ frame_name_at p slot
  named_here l place at slot k n here number =
      let r = named_at (lists_of p) (length p.shows) rows.jobs place l at k slot n here number in
      sym (ap (name_of_slot p) r.at_slot ∙ (ap (name_of_frame p) r.is ∙ (ap (λ (o : Option LayerRow). frame_name r.frame.number (layer_name_of o)) r.layer_is ∙ ap (λ (m : ℤ). frame_name m l.name) r.number_is)))

  named_by : (ls : List LayerRow) → AreLayers (lists_of p) ls → (slot k : ℕ) → slice_get (all_slots (map (layer_shape p.slots) ls)) k ≡ Some slot → name_in (map (layer_shape p.slots) ls) slot ≡ frame_name_at p slot
  named_by [] each slot k at = absurd (none-some slot at)
  named_by (l ∷ ls) each slot k at =
      by (number_among slot (range_numbers l.range) (slots_placed p.slots l.job l.place 0 (range_numbers l.range))) refl (named_by ls (λ m j there. each (suc m) j there) slot)
    where
      by : (o : Option ℤ) → number_among slot (range_numbers l.range) (slots_placed p.slots l.job l.place 0 (range_numbers l.range)) ≡ o
          → ((m : ℕ) → slice_get (all_slots (map (layer_shape p.slots) ls)) m ≡ Some slot → name_in (map (layer_shape p.slots) ls) slot ≡ frame_name_at p slot)
          → named_or l.name (number_among slot (range_numbers l.range) (slots_placed p.slots l.job l.place 0 (range_numbers l.range))) (name_in (map (layer_shape p.slots) ls) slot) ≡ frame_name_at p slot
      by (Some n) is later =
          let r = found_number slot (range_numbers l.range) (slots_placed p.slots l.job l.place 0 (range_numbers l.range)) n is in
          let there = each 0 l refl in
          ap (λ (o : Option ℤ). named_or l.name o (name_in (map (layer_shape p.slots) ls) slot)) is ∙ named_here l there.0 there.1 slot r.place n r.slot_there r.number_there
      by None is later =
          ap (λ (o : Option ℤ). named_or l.name o (name_in (map (layer_shape p.slots) ls) slot)) is
          ∙ in_rest (in_either (slots_placed p.slots l.job l.place 0 (range_numbers l.range)) (all_slots (map (layer_shape p.slots) ls)) k slot at)
        where
          in_rest : (slice_get (slots_placed p.slots l.job l.place 0 (range_numbers l.range)) k ≡ Some slot) ⊎ ((m : ℕ) × (slice_get (all_slots (map (layer_shape p.slots) ls)) m ≡ Some slot)) → name_in (map (layer_shape p.slots) ls) slot ≡ frame_name_at p slot
          in_rest (inl here) =
              absurd (none_number slot (range_numbers l.range) (slots_placed p.slots l.job l.place 0 (range_numbers l.range)) k (sym (length-placed p.slots l.job l.place 0 (range_numbers l.range))) here is)
          in_rest (inr there) = later there.0 there.1

  -- the frame's name from its job's shape
  pub name_is : (job slot k : ℕ) → slice_get (all_slots (shape_of p job).layers) k ≡ Some slot → name_in (shape_of p job).layers slot ≡ frame_name_at p slot
  name_is job slot k at = named_by (layers_of p.layers job) (layers_of_are (lists_of p) job) slot k at
