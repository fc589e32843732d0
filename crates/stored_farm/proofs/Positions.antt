-- The positions of a depend's groups rise, below the most frames of a layer.
use Rattle.std.proofs.Common.{◌≡◌, ◌<◌, ◌≤◌, ℕ, ℤ, suc, ◌+◌, Bool, true, false, cond, ◌||◌, eqb, leb, List, [], ◌∷◌, ◌++◌, map, length, Option, Some, None, refl, arith}
use Rattle.std.specs.Prelude.{bytes_eq}
use Rattle.std.specs.List.{find, list_any, slice_get}
use Rattle.std.proofs.lemmas.Bool.{eqb-true, false≢true, leb-true}
use Rattle.farm_types.specs.declared.depend.DependKind.{DependKind}
use Rattle.farm_types.specs.declared.depend.DependKind.TheVariants.{JobOnJob, JobOnLayer, JobOnFrame, LayerOnJob, LayerOnLayer, LayerOnFrame, FrameOnJob, FrameOnLayer, FrameOnFrame, FrameByFrame, PreviousFrame}
use Rattle.farm_types.specs.declared.depend.DependRow.{DependRow}
use Rattle.farm_types.specs.declared.depend.Group.{Group}
use Rattle.farm_types.specs.declared.depend.LayerShape.{LayerShape}
use Rattle.farm_types.specs.declared.depend.Shape.{Shape}
use Rattle.farm_types.specs.declared.limits.TheConstants.{MOST_FRAMES, SLOT_LIMIT}
use Rattle.farm_types.specs.declared.rows.LayerRow.{LayerRow}
use Rattle.farm_types.specs.declared.slot_row.SlotRow.{SlotRow}
use Rattle.farm_types.specs.Farm.{Farm, layers_of}
use Rattle.farm_types.specs.Groups.{Part, group_of, groups_by, groups_by_number, groups_in_step, groups_of_previous, layer_of_part, or_no_layer, part_at, slot_numbered}
use Rattle.farm_types.specs.Ranges.{range_numbers}
use Rattle.farm_types.specs.Rising.{IsRising}
use Rattle.farm_types.proofs.Lists.{list_all-at}
use Rattle.farm_law.proofs.Filtered.{at_kept}
use Rattle.farm_rows.specs.Recovery.{groups_so_far, layer_so_far, shape_so_far}
use Rattle.stored_rows.specs.SoFar.{HasFewNumbers}
use Rattle.stored_farm.specs.Marks.{position_key}
use Rattle.stored_farm.proofs.Long.{so_far_long}

rising_from : (low other : ℕ) (gs : List Group) (high : ℕ) → low ≤ other → IsRising position_key other gs high → IsRising position_key low gs high
rising_from low other [] high below rise = omega (arith, below, rise)
rising_from low other (g ∷ gs) high below rise = (omega (arith, below, rise.0), rise.1)

number_step : (low high s : ℕ) (targets : List ℕ) (any : Bool) (later : List Group) → IsRising position_key (low + 1) later high → IsRising position_key low (group_of low any s targets ++ later) high
number_step low high s [] any later rise = rising_from low (low + 1) later high (omega arith) rise
number_step low high s (t ∷ ts) any later rise = (omega arith, rise)

by_number : (low high : ℕ) (any : Bool) (ns : List ℤ) (ss : List ℕ) (target : LayerShape) → low + length ss ≤ high → IsRising position_key low (groups_by_number low any ns ss target) high
by_number low high any [] ss target few = omega (arith, few)
by_number low high any (n ∷ ns) [] target few = omega (arith, few)
by_number low high any (n ∷ ns) (s ∷ ss) target few =
    number_step low high s (slot_numbered n target.numbers target.slots) any (groups_by_number (low + 1) any ns ss target) (by_number (low + 1) high any ns ss target (omega (arith, few)))

in_step : (low high : ℕ) (any : Bool) (ss ts : List ℕ) → low + length ss ≤ high → IsRising position_key low (groups_in_step low any ss ts) high
in_step low high any [] ts few = omega (arith, few)
in_step low high any (s ∷ ss) [] few = omega (arith, few)
in_step low high any (s ∷ ss) (t ∷ ts) few = (omega arith, in_step (low + 1) high any ss ts (omega (arith, few)))

of_previous : (high : ℕ) (any : Bool) (ss ts : List ℕ) → length ss ≤ high → IsRising position_key 0 (groups_of_previous any ss ts) high
of_previous high any [] ts few = omega arith
of_previous high any (s ∷ ss) ts few = rising_from 0 1 (groups_in_step 1 any ss ts) high (omega arith) (in_step 1 high any ss ts (omega (arith, few)))

module _ (high : ℕ) (any : Bool) (P Q : Part) (S R : Shape) (some : 1 ≤ high) (few : length (layer_of_part S.layers P.layer).slots ≤ high) where
  positions_rise : (kind : DependKind) → IsRising position_key 0 (groups_by kind any P Q S R) high
  positions_rise FrameByFrame =
      let own = layer_of_part S.layers P.layer in
      by_number 0 high any own.numbers own.slots (layer_of_part R.layers Q.layer) (omega (arith, few))
  positions_rise PreviousFrame = of_previous high any (layer_of_part S.layers P.layer).slots (layer_of_part R.layers Q.layer).slots few
  positions_rise JobOnJob = (omega arith, omega (arith, some))
  positions_rise JobOnLayer = (omega arith, omega (arith, some))
  positions_rise JobOnFrame = (omega arith, omega (arith, some))
  positions_rise LayerOnJob = (omega arith, omega (arith, some))
  positions_rise LayerOnLayer = (omega arith, omega (arith, some))
  positions_rise LayerOnFrame = (omega arith, omega (arith, some))
  positions_rise FrameOnJob = (omega arith, omega (arith, some))
  positions_rise FrameOnLayer = (omega arith, omega (arith, some))
  positions_rise FrameOnFrame = (omega arith, omega (arith, some))

-- ---- a layer's frames are few

called_step : (b : Bool) (l : LayerShape) (o : Option LayerShape) → length l.slots ≤ MOST_FRAMES → length (or_no_layer o).slots ≤ MOST_FRAMES → length (or_no_layer (cond b (Some l) o)).slots ≤ MOST_FRAMES
called_step true l o first later = first
called_step false l o first later = later

called_few : (none : ℕ) (slots : List SlotRow) (name : List ℕ) (ls : List LayerRow) → ((n : ℕ) (l : LayerRow) → slice_get ls n ≡ Some l → length (range_numbers l.range) ≤ MOST_FRAMES)
    → length (or_no_layer (find (λ (l : LayerShape). bytes_eq l.name name) (map (layer_so_far none slots) ls))).slots ≤ MOST_FRAMES
called_few none slots name [] each = omega arith
called_few none slots name (l ∷ ls) each =
    called_step (bytes_eq l.name name) (layer_so_far none slots l) (find (λ (k : LayerShape). bytes_eq k.name name) (map (layer_so_far none slots) ls))
    (omega (arith, so_far_long none slots l 0 (range_numbers l.range), each 0 l refl)) (called_few none slots name ls (λ n k at. each (suc n) k at))

part_few : (f : Farm) → HasFewNumbers f → (none job : ℕ) (name : Option (List ℕ)) → length (layer_of_part (shape_so_far none f job).layers name).slots ≤ MOST_FRAMES
part_few f k none job None = omega arith
part_few f k none job (Some name) =
    called_few none f.slots name (layers_of f.layers job)
    (λ n l at.
    let own = at_kept (λ (m : LayerRow). eqb m.job job) f.layers n l at in
    leb-true (length (range_numbers l.range)) MOST_FRAMES (list_all-at (λ (m : LayerRow). leb (length (range_numbers m.range)) MOST_FRAMES) f.layers own.0 l k own.1))

pub so_far_rise : (f : Farm) → HasFewNumbers f → (d : DependRow) → IsRising position_key 0 (groups_so_far f d) MOST_FRAMES
unfolding groups_so_far
so_far_rise f k d =
    positions_rise MOST_FRAMES d.any (part_at d.waiter) (part_at d.target) (shape_so_far SLOT_LIMIT f d.waiter.job) (shape_so_far (SLOT_LIMIT + 1) f d.target.job) (omega arith)
    (part_few f k SLOT_LIMIT d.waiter.job d.waiter.layer) d.kind

-- ---- a position among those that rise

rising_low : (low : ℕ) (gs : List Group) (high : ℕ) → IsRising position_key low gs high → low ≤ high
rising_low low [] high rise = rise
rising_low low (g ∷ gs) high rise = let later = rising_low (g.position + 1) gs high rise.1 in omega (arith, later, rise.0)

here_or : (b : Bool) (g : Group) (p : ℕ) (rest : Bool) (high : ℕ) → eqb g.position p ≡ b → g.position + 1 ≤ high → (rest ≡ true → p < high) → (b || rest) ≡ true → p < high
here_or true g p rest high is below later h = omega (arith, eqb-true g.position p is, below)
here_or false g p rest high is below later h = later h

pub position_below : (p low : ℕ) (gs : List Group) (high : ℕ) → IsRising position_key low gs high → list_any (λ (g : Group). eqb g.position p) gs ≡ true → p < high
position_below p low [] high rise h = absurd (false≢true h)
position_below p low (g ∷ gs) high rise h =
    here_or (eqb g.position p) g p (list_any (λ (k : Group). eqb k.position p) gs) high refl (rising_low (g.position + 1) gs high rise.1) (position_below p (g.position + 1) gs high rise.1) h
