-- Groups of shapes that differ in their slots alone are as many: so many groups does a depend have while frames lack slots as it has once all are there.
use Rattle.std.proofs.Common.{◌≡◌, ◌∙◌, ℕ, ℤ, suc, ◌+◌, Bool, true, false, cond, List, [], ◌∷◌, map, length, Option, Some, None, refl, sym, ap, arith}
use Rattle.std.specs.Prelude.{bytes_eq}
use Rattle.std.specs.List.{find}
use Rattle.std.specs.Ordering.{int_eq}
use Rattle.std.proofs.lemmas.List.{length-append}
use Rattle.farm_types.specs.declared.depend.DependKind.{DependKind}
use Rattle.farm_types.specs.declared.depend.DependKind.TheVariants.{JobOnJob, JobOnLayer, JobOnFrame, LayerOnJob, LayerOnLayer, LayerOnFrame, FrameOnJob, FrameOnLayer, FrameOnFrame, FrameByFrame, PreviousFrame}
use Rattle.farm_types.specs.declared.depend.DependRow.{DependRow}
use Rattle.farm_types.specs.declared.depend.LayerShape.{LayerShape}
use Rattle.farm_types.specs.declared.depend.Shape.{Shape}
use Rattle.farm_types.specs.declared.limits.TheConstants.{SLOT_LIMIT}
use Rattle.farm_types.specs.declared.rows.LayerRow.{LayerRow}
use Rattle.farm_types.specs.declared.slot_row.SlotRow.{SlotRow}
use Rattle.farm_types.specs.Depends.{groups_of, layer_shape, shape_of, slots_placed}
use Rattle.farm_types.specs.Farm.{Farm, layers_of}
use Rattle.farm_types.specs.Groups.{Part, group_of, groups_by, groups_by_number, groups_in_step, groups_of_previous, layer_of_part, or_no_layer, part_at, slot_numbered}
use Rattle.farm_types.specs.Ranges.{range_numbers}
use Rattle.farm_rows.specs.Recovery.{groups_so_far, layer_so_far, shape_so_far, slots_so_far}

-- ---- slots

pub so_far_long : (none : ℕ) (slots : List SlotRow) (l : LayerRow) (position : ℕ) (ns : List ℤ) → length (slots_so_far none slots l position ns) ≡ length ns
so_far_long none slots l position [] = refl
so_far_long none slots l position (n ∷ ns) = ap suc (so_far_long none slots l (position + 1) ns)

placed_long : (slots : List SlotRow) (job layer position : ℕ) (ns : List ℤ) → length (slots_placed slots job layer position ns) ≡ length ns
placed_long slots job layer position [] = refl
placed_long slots job layer position (n ∷ ns) = ap suc (placed_long slots job layer (position + 1) ns)

-- ---- layers that differ in their slots alone

record Alike (a b : LayerShape) : Type 0 where
  numbers : a.numbers ≡ b.numbers
  long : length a.slots ≡ length b.slots

called_step : (b : Bool) (x y : LayerShape) (o p : Option LayerShape) → Alike x y → Alike (or_no_layer o) (or_no_layer p) → Alike (or_no_layer (cond b (Some x) o)) (or_no_layer (cond b (Some y) p))
called_step true x y o p first later = first
called_step false x y o p first later = later

called_alike : (none : ℕ) (slots : List SlotRow) (name : List ℕ) (ls : List LayerRow)
    → Alike (or_no_layer (find (λ (l : LayerShape). bytes_eq l.name name) (map (layer_so_far none slots) ls))) (or_no_layer (find (λ (l : LayerShape). bytes_eq l.name name) (map (layer_shape slots) ls)))
called_alike none slots name [] = record { numbers = refl; long = refl }
called_alike none slots name (l ∷ ls) =
    let ns = range_numbers l.range in
    called_step (bytes_eq l.name name) (layer_so_far none slots l) (layer_shape slots l) (find (λ (k : LayerShape). bytes_eq k.name name) (map (layer_so_far none slots) ls))
    (find (λ (k : LayerShape). bytes_eq k.name name) (map (layer_shape slots) ls)) (record { numbers = refl; long = so_far_long none slots l 0 ns ∙ sym (placed_long slots l.job l.place 0 ns) })
    (called_alike none slots name ls)

part_alike : (f : Farm) (none job : ℕ) (name : Option (List ℕ)) → Alike (layer_of_part (shape_so_far none f job).layers name) (layer_of_part (shape_of f job).layers name)
part_alike f none job None = record { numbers = refl; long = refl }
part_alike f none job (Some name) = called_alike none f.slots name (layers_of f.layers job)

-- ---- groups

numbered_step : (b : Bool) (s t : ℕ) (xs ys : List ℕ) → length xs ≡ length ys → length (cond b (s ∷ []) xs) ≡ length (cond b (t ∷ []) ys)
numbered_step true s t xs ys e = refl
numbered_step false s t xs ys e = e

numbered_long : (number : ℤ) (ns : List ℤ) (ss ts : List ℕ) → length ss ≡ length ts → length (slot_numbered number ns ss) ≡ length (slot_numbered number ns ts)
numbered_long number [] ss ts e = refl
numbered_long number (n ∷ ns) [] [] e = refl
numbered_long number (n ∷ ns) [] (t ∷ ts) e = absurd (omega (arith, e))
numbered_long number (n ∷ ns) (s ∷ ss) [] e = absurd (omega (arith, e))
numbered_long number (n ∷ ns) (s ∷ ss) (t ∷ ts) e =
    numbered_step (int_eq n number) s t (slot_numbered number ns ss) (slot_numbered number ns ts) (numbered_long number ns ss ts (omega (arith, e)))

group_long : (position : ℕ) (any : Bool) (s t : ℕ) (xs ys : List ℕ) → length xs ≡ length ys → length (group_of position any s xs) ≡ length (group_of position any t ys)
group_long position any s t [] [] e = refl
group_long position any s t [] (y ∷ ys) e = absurd (omega (arith, e))
group_long position any s t (x ∷ xs) [] e = absurd (omega (arith, e))
group_long position any s t (x ∷ xs) (y ∷ ys) e = refl

module _ (any : Bool) (A B : LayerShape) (alike : Alike A B) where
  target_long : (number : ℤ) → length (slot_numbered number A.numbers A.slots) ≡ length (slot_numbered number B.numbers B.slots)
  target_long number = ap (λ (ns : List ℤ). length (slot_numbered number ns A.slots)) alike.numbers ∙ numbered_long number B.numbers A.slots B.slots alike.long

  by_number_long : (position : ℕ) (ns : List ℤ) (ss ts : List ℕ) → length ss ≡ length ts → length (groups_by_number position any ns ss A) ≡ length (groups_by_number position any ns ts B)
  by_number_long position [] ss ts e = refl
  by_number_long position (n ∷ ns) [] [] e = refl
  by_number_long position (n ∷ ns) [] (t ∷ ts) e = absurd (omega (arith, e))
  by_number_long position (n ∷ ns) (s ∷ ss) [] e = absurd (omega (arith, e))
  by_number_long position (n ∷ ns) (s ∷ ss) (t ∷ ts) e =
      let here = group_long position any s t (slot_numbered n A.numbers A.slots) (slot_numbered n B.numbers B.slots) (target_long n) in
      let later = by_number_long (position + 1) ns ss ts (omega (arith, e)) in
      length-append (group_of position any s (slot_numbered n A.numbers A.slots)) (groups_by_number (position + 1) any ns ss A)
      ∙ ((λ i. here i + later i) ∙ sym (length-append (group_of position any t (slot_numbered n B.numbers B.slots)) (groups_by_number (position + 1) any ns ts B)))

in_step_long : (position : ℕ) (any : Bool) (ss ts xs ys : List ℕ) → length ss ≡ length xs → length ts ≡ length ys → length (groups_in_step position any ss ts) ≡ length (groups_in_step position any xs ys)
in_step_long position any [] ts [] ys e d = refl
in_step_long position any [] ts (x ∷ xs) ys e d = absurd (omega (arith, e))
in_step_long position any (s ∷ ss) ts [] ys e d = absurd (omega (arith, e))
in_step_long position any (s ∷ ss) [] (x ∷ xs) [] e d = refl
in_step_long position any (s ∷ ss) [] (x ∷ xs) (y ∷ ys) e d = absurd (omega (arith, d))
in_step_long position any (s ∷ ss) (t ∷ ts) (x ∷ xs) [] e d = absurd (omega (arith, d))
in_step_long position any (s ∷ ss) (t ∷ ts) (x ∷ xs) (y ∷ ys) e d = ap suc (in_step_long (position + 1) any ss ts xs ys (omega (arith, e)) (omega (arith, d)))

previous_long : (any : Bool) (ss ts xs ys : List ℕ) → length ss ≡ length xs → length ts ≡ length ys → length (groups_of_previous any ss ts) ≡ length (groups_of_previous any xs ys)
previous_long any [] ts [] ys e d = refl
previous_long any [] ts (x ∷ xs) ys e d = absurd (omega (arith, e))
previous_long any (s ∷ ss) ts [] ys e d = absurd (omega (arith, e))
previous_long any (s ∷ ss) ts (x ∷ xs) ys e d = in_step_long 1 any ss ts xs ys (omega (arith, e)) d

module _ (any : Bool) (P Q : Part) (S R T U : Shape) (waiters : Alike (layer_of_part S.layers P.layer) (layer_of_part T.layers P.layer)) (targets : Alike (layer_of_part R.layers Q.layer) (layer_of_part U.layers Q.layer)) where
  groups_long : (kind : DependKind) → length (groups_by kind any P Q S R) ≡ length (groups_by kind any P Q T U)
  groups_long FrameByFrame =
      let A = layer_of_part S.layers P.layer in
      let B = layer_of_part T.layers P.layer in
      let C = layer_of_part R.layers Q.layer in
      let D = layer_of_part U.layers Q.layer in
      ap (λ (ns : List ℤ). length (groups_by_number 0 any ns A.slots C)) waiters.numbers ∙ by_number_long any C D targets 0 B.numbers A.slots B.slots waiters.long
  groups_long PreviousFrame =
      previous_long any (layer_of_part S.layers P.layer).slots (layer_of_part R.layers Q.layer).slots (layer_of_part T.layers P.layer).slots (layer_of_part U.layers Q.layer).slots waiters.long targets.long
  groups_long JobOnJob = refl
  groups_long JobOnLayer = refl
  groups_long JobOnFrame = refl
  groups_long LayerOnJob = refl
  groups_long LayerOnLayer = refl
  groups_long LayerOnFrame = refl
  groups_long FrameOnJob = refl
  groups_long FrameOnLayer = refl
  groups_long FrameOnFrame = refl

pub length_of : (f : Farm) (d : DependRow) → length (groups_so_far f d) ≡ length (groups_of f d)
unfolding groups_so_far groups_of
length_of f d =
    groups_long d.any (part_at d.waiter) (part_at d.target) (shape_so_far SLOT_LIMIT f d.waiter.job) (shape_so_far (SLOT_LIMIT + 1) f d.target.job) (shape_of f d.waiter.job) (shape_of f d.target.job)
    (part_alike f SLOT_LIMIT d.waiter.job d.waiter.layer) (part_alike f (SLOT_LIMIT + 1) d.target.job d.target.layer) d.kind
