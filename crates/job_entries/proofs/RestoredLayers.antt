-- The place of a layer among layers in order, and the layer of a frame that a farm keeps.
use Rattle.std.proofs.Common.{◌≡◌, ℕ, ◌+◌, ◌*◌, ◌<◌, ◌&&◌, Bool, true, false, not, cond, eqb, List, [], ◌∷◌, Option, Some, refl, sym, ap, subst, ◌∙◌, arith}
use Rattle.std.specs.Prelude.{nat_le}
use Rattle.std.specs.List.{list_all, position_or_len}
use Rattle.std.proofs.lemmas.Bool.{eq-eqb, eqb-true, eqb-false, ne_eqb}
use Rattle.farm_types.specs.declared.limits.TheConstants.{LAST_VERSION, MOST_LAYERS}
use Rattle.farm_types.specs.declared.rows.LayerRow.{LayerRow}
use Rattle.farm_types.specs.declared.slot_row.Frame.{Frame}
use Rattle.farm_types.specs.declared.slot_row.SlotRow.{SlotRow}
use Rattle.farm_types.specs.Farm.{for_any, layer_in}
use Rattle.farm_types.specs.Kept.{is_formed_layer, is_kept_frame, is_kept_slot}
use Rattle.farm_types.specs.Rising.{layer_key}
use Rattle.farm_types.proofs.Lists.{and_both, find_passes, for_some_true, found_is}
use Rattle.farm_law.proofs.FormedParts.{layer_formed}
use Rattle.farm_law.proofs.KeptJobsRows.{frame_kept}
use Rattle.job_entries.specs.Entries.{layer_position}

-- a layer has the key exactly where it is at the place of the job
key_is : (job place : ℕ) (l : LayerRow) → l.place < MOST_LAYERS → place < MOST_LAYERS → eqb (layer_key l) (MOST_LAYERS * job + place) ≡ (eqb l.job job && eqb l.place place)
key_is job place l first second = by (eqb l.job job) (eqb l.place place) refl refl
  where
    by : (a b : Bool) → eqb l.job job ≡ a → eqb l.place place ≡ b → eqb (layer_key l) (MOST_LAYERS * job + place) ≡ (a && b)
    by true true j p = eq-eqb (layer_key l) (MOST_LAYERS * job + place) (omega (arith, eqb-true l.job job j, eqb-true l.place place p))
    by true false j p = ne_eqb (layer_key l) (MOST_LAYERS * job + place) (λ e. eqb-false l.place place p (omega (arith, e, eqb-true l.job job j)))
    by false b j p = ne_eqb (layer_key l) (MOST_LAYERS * job + place) (λ e. eqb-false l.job job j (omega (arith, e, first, second)))

pub position_is : (job place : ℕ) (ls : List LayerRow) → place < MOST_LAYERS → list_all is_formed_layer ls ≡ true → position_or_len (λ (l : LayerRow). eqb (layer_key l) (MOST_LAYERS * job + place)) ls ≡ layer_position job place ls
position_is job place [] within formed = refl
position_is job place (l ∷ ls) within formed =
    let both = and_both (is_formed_layer l) (list_all is_formed_layer ls) formed in
    let first = key_is job place l (layer_formed l both.0).place within in
    ap (λ b. cond (not b) (1 + position_or_len (λ (k : LayerRow). eqb (layer_key k) (MOST_LAYERS * job + place)) ls) 0) first
    ∙ ap (λ (n : ℕ). cond (not (eqb l.job job && eqb l.place place)) (1 + n) 0) (position_is job place ls within both.1)

-- a kept frame's layer is below the most that a job has
pub layer_within : (layers : List LayerRow) (s : SlotRow) (y : Frame) → list_all is_formed_layer layers ≡ true → is_kept_slot layers s ≡ true → s.frame ≡ Some y → y.layer < MOST_LAYERS
layer_within layers s y formed kept is =
    let both = and_both (nat_le s.version LAST_VERSION) (for_any s.frame (is_kept_frame layers)) kept in
    let test : LayerRow → Bool = λ (l : LayerRow). eqb l.job y.job && eqb l.place y.layer in
    let frame : is_kept_frame layers y ≡ true = sym (ap (λ (o : Option Frame). for_any o (is_kept_frame layers)) is) ∙ both.1 in
    let layer = for_some_true (layer_in layers y.job y.layer) _ (frame_kept layers y frame).number in
    let its = find_passes test is_formed_layer layers layer.0 formed layer.1 in
    let own = and_both (eqb layer.0.job y.job) (eqb layer.0.place y.layer) (found_is test layers layer.0 layer.1) in
    subst (λ (n : ℕ). n < MOST_LAYERS) (eqb-true layer.0.place y.layer own.1) (layer_formed layer.0 its).place
