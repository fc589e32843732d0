-- What a shape shows of a job's: its layers, its groups, and what is refused of an end.
use Rattle.std.specs.Bool.{◌==◌}
use Rattle.std.proofs.Common.{◌≡◌, ℕ, ℤ, Bool, true, false, cond, List, [], ◌∷◌, map, Option, Some, None, option_map, refl, sym, ap, ◌∙◌}
use Rattle.std.specs.List.{find, position_or_len, slice_get}
use Rattle.std.specs.Str.{bytes_eq}
use Rattle.std.proofs.lemmas.List.Folds.{find_at}
use Rattle.std.proofs.lemmas.Option.{none-some, same_Some}
use Rattle.farm_types.specs.declared.depend.DependKind.{DependKind}
use Rattle.farm_types.specs.declared.depend.DependKind.TheVariants.{FrameByFrame, PreviousFrame}
use Rattle.farm_types.specs.declared.depend.DependRow.{DependRow}
use Rattle.farm_types.specs.declared.depend.DependSpec.{DependSpec}
use Rattle.farm_types.specs.declared.depend.LayerShape.{LayerShape}
use Rattle.farm_types.specs.declared.depend.Place.{Place}
use Rattle.farm_types.specs.declared.depend.Shape.{Shape}
use Rattle.farm_types.specs.declared.refusal.Refusal.{Refusal}
use Rattle.farm_types.specs.declared.rows.JobRow.{JobRow}
use Rattle.farm_types.specs.declared.rows.LayerRow.{LayerRow}
use Rattle.farm_types.specs.declared.slot_row.SlotRow.{SlotRow}
use Rattle.farm_types.specs.DependActs.{end_of, end_refusal, job_missing, layer_refusal, missing_among, new_groups, number_of, part_refusal, pending_named, place_refusal}
use Rattle.farm_types.specs.Depends.{groups_of, layer_shape, shape_in, shape_of}
use Rattle.farm_types.specs.Farm.{Farm, layers_of}
use Rattle.farm_types.specs.Groups.{Part, all_slots, groups_by, groups_by_number, groups_of_previous, layer_named_by, layer_of_part, or_no_layer, part_at, part_of, slots_at, slots_of_layer, slots_of_part}
use Rattle.farm_types.specs.Jobs.{JobLists}
use Rattle.farm_types.specs.Step.{lists_of}
use Rattle.farm_types.proofs.Lists.{found_is}
use Rattle.depend_law.proofs.Among.{kept_from}
use Rattle.farm_types.specs.declared.fault.FarmFault.{FarmFault}
use Rattle.farm_types.specs.declared.fault.FarmFault.TheVariants.{Refused, NoMemory}
use Rattle.std.proofs.Common.{Err}
use Rattle.farm_types.specs.Faults.{IsRefusal, Refuses}
use Rattle.farm_places.specs.Ends.{FindsEnd, ShowsPart, is_called, layer_refusal_in, shape_refusal}
use Rattle.farm_places.specs.Shapes.{AreLayers}

-- ---- layers of a job

pub layers_of_are : (b : JobLists) (job : ℕ) → AreLayers b (layers_of b.layers job)
layers_of_are b job n l at = (kept_from (λ (k : LayerRow). k.job == job) b.layers n l at).0

-- a layer that was found is there
pub found_there : (b : JobLists) (job : ℕ) (name : List ℕ) (l : LayerRow) → find (λ (k : LayerRow). bytes_eq k.name name) (layers_of b.layers job) ≡ Some l → (n : ℕ) × (slice_get b.layers n ≡ Some l)
found_there b job name l found =
    layers_of_are b job (position_or_len (λ (k : LayerRow). bytes_eq k.name name) (layers_of b.layers job)) l
    (sym (find_at (λ (k : LayerRow). bytes_eq k.name name) (layers_of b.layers job)) ∙ found)

-- ---- the layer of a name

pub find_shapes : (slots : List SlotRow) (name : List ℕ) (ls : List LayerRow) → find (is_called name) (map (layer_shape slots) ls) ≡ option_map (layer_shape slots) (find (λ (l : LayerRow). bytes_eq l.name name) ls)
find_shapes slots name [] = refl
find_shapes slots name (l ∷ ls) = step (bytes_eq l.name name) refl (find_shapes slots name ls)
  where
    step : (b : Bool) → bytes_eq l.name name ≡ b → find (is_called name) (map (layer_shape slots) ls) ≡ option_map (layer_shape slots) (find (λ (k : LayerRow). bytes_eq k.name name) ls)
        → find (is_called name) (layer_shape slots l ∷ map (layer_shape slots) ls) ≡ option_map (layer_shape slots) (find (λ (k : LayerRow). bytes_eq k.name name) (l ∷ ls))
    step true is later = rw is refl
    step false is later = rw is later

pub none_shown : (layers : List LayerRow) (slots : List SlotRow) (job : ℕ) (name : List ℕ) (shape : Shape) → shape.layers ≡ [] → find (λ (l : LayerRow). bytes_eq l.name name) (layers_of layers job) ≡ None
    → ShowsPart (shape_in layers slots job) shape (Some name)
none_shown layers slots job name shape is none = ap (find (is_called name)) is ∙ sym (find_shapes slots name (layers_of layers job) ∙ ap (option_map (layer_shape slots)) none)

pub one_shown : (layers : List LayerRow) (slots : List SlotRow) (job : ℕ) (name : List ℕ) (shape : Shape) (l : LayerRow) → shape.layers ≡ layer_shape slots l ∷ [] → find (λ (k : LayerRow). bytes_eq k.name name) (layers_of layers job) ≡ Some l
    → ShowsPart (shape_in layers slots job) shape (Some name)
one_shown layers slots job name shape l is found =
    ap (find (is_called name)) is ∙ (ap (λ (b : Bool). cond b (Some (layer_shape slots l)) None) (found_is (λ (k : LayerRow). bytes_eq k.name name) (layers_of layers job) l found)
    ∙ sym (find_shapes slots name (layers_of layers job) ∙ ap (option_map (layer_shape slots)) found))

pub all_shown : (full shape : Shape) (layer : Option (List ℕ)) → shape ≡ full → ShowsPart full shape layer
all_shown full shape None is = ap (λ (s : Shape). all_slots s.layers) is
all_shown full shape (Some name) is = ap (λ (s : Shape). find (is_called name) s.layers) is

-- ---- groups

pub shown_slots : (full shape : Shape) (layer : Option (List ℕ)) (frame : Option ℤ) → ShowsPart full shape layer → slots_of_layer shape.layers layer frame ≡ slots_of_layer full.layers layer frame
shown_slots full shape None frame shows = shows
shown_slots full shape (Some name) frame shows = ap (λ (o : Option LayerShape). slots_of_part (or_no_layer o) frame) shows

shown_layer : (full shape : Shape) (layer : Option (List ℕ)) → ShowsPart full shape layer → layer_of_part shape.layers layer ≡ layer_of_part full.layers layer
shown_layer full shape None shows = refl
shown_layer full shape (Some name) shows = ap or_no_layer shows

module _ (any : Bool) (p q : Part) (waiters targets full_waiters full_targets : Shape) (w : slots_at waiters p ≡ slots_at full_waiters p) (t : slots_at targets q ≡ slots_at full_targets q)
    (wl : layer_named_by waiters p ≡ layer_named_by full_waiters p) (tl : layer_named_by targets q ≡ layer_named_by full_targets q) where
  groups_alike : (kind : DependKind) → groups_by kind any p q waiters targets ≡ groups_by kind any p q full_waiters full_targets
  groups_alike FrameByFrame =
      ap (λ (l : LayerShape). groups_by_number 0 any l.numbers l.slots (layer_named_by targets q)) wl
      ∙ ap (λ (l : LayerShape). groups_by_number 0 any (layer_named_by full_waiters p).numbers (layer_named_by full_waiters p).slots l) tl
  groups_alike PreviousFrame =
      ap (λ (l : LayerShape). groups_of_previous any l.slots (layer_named_by targets q).slots) wl ∙ ap (λ (l : LayerShape). groups_of_previous any (layer_named_by full_waiters p).slots l.slots) tl
  groups_alike kind =
      ap (λ (ns : List ℕ). record { position = 0; waiters = ns; targets = slots_at targets q; any = any } ∷ []) w
      ∙ ap (λ (ns : List ℕ). record { position = 0; waiters = slots_at full_waiters p; targets = ns; any = any } ∷ []) t

-- shapes that show what the ends name have the depend's groups
pub groups_shown : (f : Farm) (spec : DependSpec) (waiters targets : Shape) → ShowsPart (shape_of f (end_of f spec.waiter).job) waiters spec.waiter.layer → ShowsPart (shape_of f (end_of f spec.target).job) targets spec.target.layer
    → groups_by spec.kind spec.any (part_of spec.waiter) (part_of spec.target) waiters targets ≡ new_groups f spec
unfolding groups_of
groups_shown f spec waiters targets w t =
    let full_w = shape_of f (end_of f spec.waiter).job in
    let full_t = shape_of f (end_of f spec.target).job in
    groups_alike spec.any (part_of spec.waiter) (part_of spec.target) waiters targets full_w full_t (shown_slots full_w waiters spec.waiter.layer spec.waiter.frame w) (shown_slots full_t targets spec.target.layer spec.target.frame t)
    (shown_layer full_w waiters spec.waiter.layer w) (shown_layer full_t targets spec.target.layer t) spec.kind

-- so do shapes that show what the ends of a row name
pub row_groups_shown : (f : Farm) (d : DependRow) (waiters targets : Shape) → ShowsPart (shape_of f d.waiter.job) waiters d.waiter.layer → ShowsPart (shape_of f d.target.job) targets d.target.layer
    → groups_by d.kind d.any (part_at d.waiter) (part_at d.target) waiters targets ≡ groups_of f d
unfolding groups_of
row_groups_shown f d waiters targets w t =
    let full_w = shape_of f d.waiter.job in
    let full_t = shape_of f d.target.job in
    groups_alike d.any (part_at d.waiter) (part_at d.target) waiters targets full_w full_t (shown_slots full_w waiters d.waiter.layer d.waiter.frame w) (shown_slots full_t targets d.target.layer d.target.frame t)
    (shown_layer full_w waiters d.waiter.layer w) (shown_layer full_t targets d.target.layer t) d.kind

-- ---- refusals

shown_refusal : (full shape : Shape) (layer : Option (List ℕ)) (frame : Option ℤ) → ShowsPart full shape layer → shape_refusal shape layer frame ≡ shape_refusal full layer frame
shown_refusal full shape None frame shows = refl
shown_refusal full shape (Some name) frame shows = ap (layer_refusal_in name frame) shows

layer_by : (slots : List SlotRow) (name : List ℕ) (frame : Option ℤ) (o : Option LayerRow) → layer_refusal name frame o ≡ layer_refusal_in name frame (option_map (layer_shape slots) o)
layer_by slots name frame None = refl
layer_by slots name None (Some l) = refl
layer_by slots name (Some number) (Some l) = refl

pub part_is : (f : Farm) (job : ℕ) (layer : Option (List ℕ)) (frame : Option ℤ) → part_refusal f job layer frame ≡ shape_refusal (shape_of f job) layer frame
part_is f job None frame = refl
part_is f job (Some name) frame =
    layer_by f.slots name frame (find (λ (l : LayerRow). bytes_eq l.name name) (layers_of f.layers job)) ∙ ap (layer_refusal_in name frame) (sym (find_shapes f.slots name (layers_of f.layers job)))

-- where the job is found, its number and the refusal of its part
pub record IsPending (f : Farm) (p : Place) (job : ℕ) : Type 0 where
  pub number : (end_of f p).job ≡ job
  pub refusal : place_refusal f p ≡ part_refusal f job p.layer p.frame

pending_by : (f : Farm) (p : Place) (job : ℕ) (o : Option JobRow) → Some job ≡ option_map (λ (j : JobRow). j.job) o → (number_of o ≡ job) × (end_refusal f p o ≡ part_refusal f job p.layer p.frame)
pending_by f p job None is = absurd (none-some job (sym is))
pending_by f p job (Some j) is = let same = sym (same_Some job j.job is) in (same, ap (λ (k : ℕ). part_refusal f k p.layer p.frame) same)

pub pending_is : (f : Farm) (p : Place) (job : ℕ) → Some job ≡ option_map (λ (j : JobRow). j.job) (pending_named f p.job) → IsPending f p job
pending_is f p job is = let both = pending_by f p job (pending_named f p.job) is in record { number = both.0; refusal = both.1 }

none_by : (f : Farm) (p : Place) (o : Option JobRow) → None ≡ option_map (λ (j : JobRow). j.job) o → end_refusal f p o ≡ Some (job_missing f p.job)
none_by f p None is = refl
none_by f p (Some j) is = absurd (none-some j.job is)

-- where no pending job is found, it is missing
pub pending_none : (f : Farm) (p : Place) → None ≡ option_map (λ (j : JobRow). j.job) (pending_named f p.job) → place_refusal f p ≡ Some (job_missing f p.job)
pending_none f p is = none_by f p (pending_named f p.job) is

-- the refusal of an end from a shape that shows it
pub refusal_shown : (f : Farm) (p : Place) (job : ℕ) (shape : Shape) → IsPending f p job → ShowsPart (shape_of f job) shape p.layer → place_refusal f p ≡ shape_refusal shape p.layer p.frame
refusal_shown f p job shape pending shows = pending.refusal ∙ (part_is f job p.layer p.frame ∙ sym (shown_refusal (shape_of f job) shape p.layer p.frame shows))

-- ---- faults

pub fault_finds : (X : Type 0) (f : Farm) (p : Place) (refusal : Option Refusal) (fault : FarmFault) → place_refusal f p ≡ refusal → Refuses {X = X} refusal (Err fault) → FindsEnd f p (Err fault)
fault_finds X f p refusal (Refused why) is refused = is ∙ refused
fault_finds X f p refusal NoMemory is refused = tt

-- where no pending job is found, the refusal is exactly that it is missing
pub missing_finds : (f : Farm) (p : Place) (b : JobLists) (fault : FarmFault) → b ≡ lists_of f → None ≡ option_map (λ (j : JobRow). j.job) (pending_named f p.job) → IsRefusal (missing_among b.jobs p.job) fault
    → FindsEnd f p (Err fault)
missing_finds f p b (Refused why) lists none is = pending_none f p none ∙ ap Some (sym (is ∙ ap (λ (x : JobLists). missing_among x.jobs p.job) lists))
missing_finds f p b NoMemory lists none is = tt
