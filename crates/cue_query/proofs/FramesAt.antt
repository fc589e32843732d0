-- The frames of a layer by their places: each of its slots has one.
use Rattle.std.proofs.Common.{◌≡◌, ℕ, suc, List, [], ◌∷◌, length, map, Option, None, Some, refl, sym, ap, ◌∙◌}
use Rattle.std.specs.Prelude.{filter_map, option_and_then, option_map}
use Rattle.std.specs.List.{slice_get}
use Rattle.std.proofs.lemmas.List.{length-map}
use Rattle.std.proofs.lemmas.Option.{none-some, same_Some, slice_get-map}
use Rattle.farm_types.specs.declared.rows.LayerRow.{LayerRow}
use Rattle.farm_types.specs.declared.slot_row.Frame.{Frame}
use Rattle.farm_types.specs.declared.slot_row.SlotRow.{SlotRow}
use Rattle.farm_types.specs.Farm.{Farm, is_placed, slot_from}
use Rattle.farm_types.specs.Jobs.{JobLists}
use Rattle.farm_types.specs.Kept.{IsKeptFarm}
use Rattle.farm_types.specs.Names.{frame_name}
use Rattle.farm_types.specs.Step.{lists_of}
use Rattle.job_book.proofs.LayerSlots.{from_slot}
use Rattle.farm_lines.specs.declared.list_row.ListRow.{ListRow}
use Rattle.farm_lines.specs.declared.list_row.ListRow.TheVariants as row
use Rattle.farm_lines.specs.Lists.{frame_row, frames_in}
use Rattle.cue_query.specs.Queries.{IsLayerOf, frame_at}
use Rattle.cue_query.proofs.OwnSlots.{own_slots}

-- where each item is kept, and what is kept of it too, none is left out
all_kept : {X Y Z : Type 0} (g : X → Option Y) (h : Y → Option Z) (xs : List X) → ((n : ℕ) (x : X) → slice_get xs n ≡ Some x → (y : Y) × (z : Z) × (g x ≡ Some y) × (h y ≡ Some z))
    → map (λ (z : Z). Some z) (filter_map h (filter_map g xs)) ≡ map (λ (x : X). option_and_then h (g x)) xs
all_kept g h [] each = refl
all_kept {Z = Z} g h (x ∷ xs) each =
    let its = each 0 x refl in
    let rest = all_kept g h xs (λ n y at. each (suc n) y at) in
    rw its.2 (rw its.3 (ap (λ (zs : List (Option Z)). Some its.1 ∷ zs) rest))

-- one of a list whose items are all there
item_of : {Z : Type 0} (o p : Option Z) (q : Option (Option Z)) → q ≡ option_map (λ (z : Z). Some z) o → q ≡ Some p → (z : Z) × (o ≡ Some z) × (p ≡ Some z)
item_of None p q is there = absurd (none-some p (sym is ∙ there))
item_of (Some z) p q is there = (z, refl, sym (same_Some (Some z) p (sym is ∙ there)))

module _ (f : Farm) (kept : IsKeptFarm f) (l : LayerRow) (its : IsLayerOf f l) (b : JobLists) (slots : List ℕ) (is : b ≡ lists_of f) (stand : (position : ℕ) → slot_from 0 (is_placed l.job l.place position) b.slots ≡ slice_get slots position) where
  shown : (s : SlotRow) (x : Frame) → s.frame ≡ Some x → (r : ListRow) × (frame_row l.name s ≡ Some r)
  shown s x has = (row.Frame (record { frame = frame_name x.number l.name; retries = x.retries; state = x.state; version = s.version }), rw has refl)

  each_shown : (n slot : ℕ) → slice_get slots n ≡ Some slot → (s : SlotRow) × (r : ListRow) × (slice_get f.slots slot ≡ Some s) × (frame_row l.name s ≡ Some r)
  each_shown n slot at =
      let found = sym (ap (λ (c : JobLists). slot_from 0 (is_placed l.job l.place n) c.slots) is) ∙ (stand n ∙ at) in
      let there = from_slot (is_placed l.job l.place n) f.slots slot found in
      let shows = shown there.row there.frame there.is in
      (there.row, shows.0, there.at, shows.1)

  all_there : map (λ (r : ListRow). Some r) (frames_in f l) ≡ map (frame_at f l.name) slots
  all_there =
      ap (λ (ns : List ℕ). map (λ (r : ListRow). Some r) (filter_map (frame_row l.name) (filter_map (slice_get f.slots) ns))) (sym (own_slots f kept l its b slots is stand))
      ∙ all_kept (slice_get f.slots) (frame_row l.name) slots each_shown

  pub count_is : length (frames_in f l) ≡ length slots
  count_is = sym (length-map (frames_in f l) (λ (r : ListRow). Some r)) ∙ (ap (λ (rs : List (Option ListRow)). length rs) all_there ∙ length-map slots (frame_at f l.name))

  pub row_there : (n slot : ℕ) → slice_get slots n ≡ Some slot → (r : ListRow) × (slice_get (frames_in f l) n ≡ Some r) × (frame_at f l.name slot ≡ Some r)
  row_there n slot at =
      item_of (slice_get (frames_in f l) n) (frame_at f l.name slot) (slice_get (map (λ (r : ListRow). Some r) (frames_in f l)) n)
      (slice_get-map (λ (r : ListRow). Some r) (frames_in f l) n)
      (ap (λ (rs : List (Option ListRow)). slice_get rs n) all_there ∙ (slice_get-map (frame_at f l.name) slots n ∙ ap (option_map (frame_at f l.name)) at))
