-- The first layer that lacks a slot, and the first job of which no frame is left, by what is known.
use Rattle.std.proofs.Common.{◌≡◌, ℕ, ℤ, ◌+◌, Bool, true, false, cond, not, ◌&&◌, ◌||◌, List, [], ◌∷◌, map, Option, Some, None, refl, sym, ap, ◌∙◌, arith}
use Rattle.std.specs.Prelude.{is_some, option_map}
use Rattle.std.specs.List.{find, list_any, position_or_len, slice_get}
use Rattle.std.proofs.lemmas.List.Folds.{find_at}
use Rattle.farm_types.specs.declared.rows.JobRow.{JobRow}
use Rattle.farm_types.specs.declared.rows.LayerRow.{LayerRow}
use Rattle.farm_types.specs.declared.slot_row.SlotRow.{SlotRow}
use Rattle.farm_types.specs.Booking.{is_pending}
use Rattle.farm_types.specs.Farm.{Farm, is_placed, slot_from}
use Rattle.farm_types.specs.Finish.{finishes}
use Rattle.farm_types.specs.Ranges.{range_numbers}
use Rattle.farm_types.specs.Rising.{layer_key}
use Rattle.farm_rows.specs.Recovery.{StoredKey, first_job, first_layer, lacks_number, lacks_slots}
use Rattle.row_index.specs.Index.{LayerKnown, lacks_any}
use Rattle.stored_rows.specs.Known.{first_ending, found_from, has_left, layer_known}

lacks_from : (f : Farm) (l : LayerRow) (position : ℕ) (ns : List ℤ) → list_any (λ slot. not (is_some slot)) (found_from f.slots l position ns) ≡ lacks_number f l position ns
lacks_from f l position [] = refl
lacks_from f l position (n ∷ ns) = ap (λ (b : Bool). not (is_some (slot_from 0 (is_placed l.job l.place position) f.slots)) || b) (lacks_from f l (position + 1) ns)

module _ {X Y : Type 0} (p : X → Bool) (q : Y → Bool) (read : X → Y) (agree : (x : X) → q (read x) ≡ p x) where
  place_mapped : (xs : List X) → position_or_len q (map read xs) ≡ position_or_len p xs
  place_mapped [] = refl
  place_mapped (x ∷ xs) = step (p x) refl (place_mapped xs)
    where
      step : (b : Bool) → p x ≡ b → position_or_len q (map read xs) ≡ position_or_len p xs → position_or_len q (map read (x ∷ xs)) ≡ position_or_len p (x ∷ xs)
      step true is rest =
          let first : q (read x) ≡ true = agree x ∙ is in
          rw (first, is) refl
      step false is rest =
          let first : q (read x) ≡ false = agree x ∙ is in
          rw (first, is) (omega (arith, rest))

-- the first layer that lacks a slot stands at the first place of which what is known does
lacking_layer : (f : Farm) (ks : List LayerKnown) (at : ℕ) → ks ≡ map (layer_known f.slots) f.layers → at ≡ position_or_len lacks_any ks → slice_get f.layers at ≡ find (lacks_slots f) f.layers
lacking_layer f ks at known is =
    let place = is ∙ ap (position_or_len lacks_any) known ∙ place_mapped (lacks_slots f) lacks_any (layer_known f.slots) (λ l. lacks_from f l 0 (range_numbers l.range)) f.layers in
    ap (slice_get f.layers) place ∙ sym (find_at (lacks_slots f) f.layers)

abbrev pub at_job : ℕ → StoredKey
at_job n = (6, n)

ending_step : (b : Bool) (j : JobRow) (first : Option ℕ) (found : Option JobRow) → option_map at_job first ≡ option_map (λ (k : JobRow). at_job k.job) found
    → option_map at_job (cond b (Some j.job) first) ≡ option_map (λ (k : JobRow). at_job k.job) (cond b (Some j) found)
ending_step true j first found rest = refl
ending_step false j first found rest = rest

-- the first pending job of which no frame is left
pub ending_known : (slots : List SlotRow) (js : List JobRow) → option_map at_job (first_ending js (map (has_left slots) js)) ≡ first_job (finishes slots) js
ending_known slots [] = refl
ending_known slots (j ∷ js) = ending_step (is_pending j.state && not (has_left slots j)) j (first_ending js (map (has_left slots) js)) (find (finishes slots) js) (ending_known slots js)

abbrev pub at_layer : ℕ → StoredKey
at_layer n = (7, n)

key_named : (test : LayerRow → Bool) (layers : List LayerRow) (o : Option LayerRow) → o ≡ find test layers → option_map at_layer (option_map layer_key o) ≡ first_layer test layers
key_named test layers o is = step o ∙ ap (λ (found : Option LayerRow). option_map (λ (l : LayerRow). at_layer (layer_key l)) found) is
  where
    step : (p : Option LayerRow) → option_map at_layer (option_map layer_key p) ≡ option_map (λ (l : LayerRow). at_layer (layer_key l)) p
    step None = refl
    step (Some l) = refl

-- the first layer that lacks a slot
pub lacking_known : (f : Farm) (ks : List LayerKnown) (at : ℕ) → ks ≡ map (layer_known f.slots) f.layers → at ≡ position_or_len lacks_any ks → option_map at_layer (option_map layer_key (slice_get f.layers at)) ≡ first_layer (lacks_slots f) f.layers
lacking_known f ks at known is = key_named (lacks_slots f) f.layers (slice_get f.layers at) (lacking_layer f ks at known is)
