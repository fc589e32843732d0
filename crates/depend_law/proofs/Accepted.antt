-- What it says that a depend isn't refused: its ends are there, no frame is to wait for itself, none that is to wait runs, and there is room.
use Rattle.std.proofs.Common.{◌≡◌, ◌≤◌, ◌<◌, ℕ, suc, zero, ◌+◌, ℤ, Bool, true, false, cond, eqb, leb, ltb, List, [], ◌∷◌, length, Option, Some, None, refl, ap, sym, subst, ◌∙◌, arith, option_map}
use Rattle.std.specs.List.{find, list_any, slice_get}
use Rattle.std.specs.Cmp.Derive.{both_true}
use Rattle.std.proofs.lemmas.Bool.{eq-eqb, leb-false, ltb-false, ne_eqb, or_from, true≢false}
use Rattle.std.proofs.lemmas.Option.{none-some, same_Some}
use Rattle.farm_types.specs.declared.depend.DependSpec.{DependSpec}
use Rattle.farm_types.specs.declared.depend.Group.{Group}
use Rattle.farm_types.specs.declared.depend.Place.{Place}
use Rattle.farm_types.specs.declared.refusal.Counted.TheVariants as counted
use Rattle.farm_types.specs.declared.refusal.Refusal.TheVariants.{Full, SelfDepend, Started, Unknown}
use Rattle.farm_types.specs.declared.rows.JobRow.{JobRow}
use Rattle.farm_types.specs.declared.rows.LayerRow.{LayerRow}
use Rattle.farm_types.specs.declared.slot_row.SlotRow.{SlotRow}
use Rattle.farm_types.specs.declared.limits.TheConstants.{LAST_DEPEND, MOST_DEPENDS, MOST_GROUPS}
use Rattle.farm_types.specs.Booking.{is_pending}
use Rattle.farm_types.specs.DependActs.{depend_refusal, depends_full, end_of, end_refusal, frame_name_at, frame_refusal, groups_refusal, has_number, job_missing, layer_of_name, layer_refusal, new_groups, number_of, or_else, part_refusal, pending_named, place_refusal, runs_already, runs_at, waits_for_itself}
use Rattle.farm_types.specs.Depends.{groups_left, waits_in}
use Rattle.farm_types.specs.Farm.{Farm, for_some, layers_of}
use Rattle.farm_types.specs.Jobs.{is_pending_named}
use Rattle.farm_types.specs.Kept.{has_frame_in, has_part, is_end_there, is_of_pending}
use Rattle.farm_types.specs.Rising.{IsRising, job_key}
use Rattle.farm_types.proofs.Lists.{and_both, found_is}
use Rattle.farm_law.proofs.KeptRuns.{neither}
use Rattle.depend_law.proofs.Among.{rising_above}

-- ---- what none says

none_mapped : {X Y : Type 0} (change : X → Y) (o : Option X) → option_map change o ≡ None → o ≡ None
none_mapped change None none = refl
none_mapped change (Some x) none = absurd (none-some (change x) (sym none))

-- of a test that refuses, then another
refused_by : {X : Type 0} (b : Bool) (x : X) (rest : Option X) → cond b (Some x) rest ≡ None → (b ≡ false) × (rest ≡ None)
refused_by true x rest none = absurd (none-some x (sym none))
refused_by false x rest none = (refl, none)

-- of a test that accepts
accepted_if : {X : Type 0} (b : Bool) (x : X) → cond b None (Some x) ≡ None → b ≡ true
accepted_if true x none = refl
accepted_if false x none = absurd (none-some x (sym none))

-- ---- room

-- there is room for a depend and so many groups
pub record HasRoom (f : Farm) (groups : ℕ) : Type 0 where
  pub depends : length f.depends < MOST_DEPENDS
  pub groups_within : groups_left f + groups ≤ MOST_GROUPS
  pub number : f.next_depend ≤ LAST_DEPEND

has_room : (f : Farm) (groups : ℕ) → depends_full f groups ≡ None → HasRoom f groups
has_room f groups none =
    let first = refused_by (leb MOST_DEPENDS (length f.depends)) (Full MOST_DEPENDS counted.Depends) _ none in
    let second = refused_by (ltb MOST_GROUPS (groups_left f + groups)) (Full MOST_GROUPS counted.Groups) _ first.1 in
    let third = refused_by (ltb LAST_DEPEND f.next_depend) (Full LAST_DEPEND counted.DependNumbers) None second.1 in
    record {
      depends = leb-false MOST_DEPENDS (length f.depends) first.0;
      groups_within = ltb-false MOST_GROUPS (groups_left f + groups) second.0;
      number = ltb-false LAST_DEPEND f.next_depend third.0;
    }

-- ---- the ends

place_by : {X : Type 0} (b : Bool) (y x : X) (ys : List X) (later : Option X) → (later ≡ Some x → (n : ℕ) × (slice_get ys n ≡ Some x)) → cond b (Some y) later ≡ Some x → (n : ℕ) × (slice_get (y ∷ ys) n ≡ Some x)
place_by true y x ys later rest at = (0, at)
place_by false y x ys later rest at = let place = rest at in (suc place.0, place.1)

-- what is found has a place
found_place : {X : Type 0} (test : X → Bool) (xs : List X) (x : X) → find test xs ≡ Some x → (n : ℕ) × (slice_get xs n ≡ Some x)
found_place test [] x at = absurd (none-some x at)
found_place test (y ∷ ys) x at = place_by (test y) y x ys (find test ys) (found_place test ys x) at

-- an item of a rising list is found by its key
found_key : {X : Type 0} (key : X → ℕ) (low : ℕ) (xs : List X) (high n : ℕ) (x : X) → IsRising key low xs high → slice_get xs n ≡ Some x → find (λ y. eqb (key y) (key x)) xs ≡ Some x
found_key key low [] high n x rise at = absurd (none-some x at)
found_key key low (y ∷ ys) high zero x rise at =
    let same = same_Some y x at in
    let itself : eqb (key y) (key x) ≡ true = eq-eqb (key y) (key x) (ap key same) in
    ap (λ (b : Bool). cond b (Some y) (find (λ z. eqb (key z) (key x)) ys)) itself ∙ ap Some same
found_key key low (y ∷ ys) high (suc n) x rise at =
    let above = rising_above key (key y + 1) ys high n x rise.1 at in
    let other : eqb (key y) (key x) ≡ false = ne_eqb (key y) (key x) (λ e. absurd (omega (arith, above, e))) in
    ap (λ (b : Bool). cond b (Some y) (find (λ z. eqb (key z) (key x)) ys)) other ∙ found_key key (key y + 1) ys high n x rise.1 at

has_frame : (frame : Option ℤ) (l : LayerRow) → frame_refusal l frame ≡ None → has_frame_in frame l ≡ true
has_frame None l none = refl
has_frame (Some number) l none = accepted_if (has_number number l) _ none

has_layer : (name : List ℕ) (frame : Option ℤ) (o : Option LayerRow) → layer_refusal name frame o ≡ None → for_some o (has_frame_in frame) ≡ true
has_layer name frame None none = absurd (none-some (Unknown name) (sym none))
has_layer name frame (Some l) none = has_frame frame l none

part_there : (f : Farm) (job : ℕ) (layer : Option (List ℕ)) (frame : Option ℤ) → part_refusal f job layer frame ≡ None → has_part (layers_of f.layers job) layer frame ≡ true
part_there f job None frame none = refl
part_there f job (Some name) frame none = has_layer name frame (layer_of_name f job name) none

module _ (f : Farm) (rise : IsRising job_key 1 f.jobs f.next_job) where
  -- the job of that name is pending
  named_pending : (name : List ℕ) (j : JobRow) → pending_named f name ≡ Some j → is_of_pending f.jobs j.job ≡ true
  named_pending name j at =
      let place = found_place (is_pending_named name) f.jobs j at in
      let there = found_key job_key 1 f.jobs f.next_job place.0 j rise place.1 in
      rw there (and_both (is_pending j.state) _ (found_is (is_pending_named name) f.jobs j at)).0

  end_by : (p : Place) (o : Option JobRow) → pending_named f p.job ≡ o → end_refusal f p o ≡ None → is_end_there f (record { job = number_of o; layer = p.layer; frame = p.frame }) ≡ true
  end_by p None is none = absurd (none-some (job_missing f p.job) (sym none))
  end_by p (Some j) is none = both_true (named_pending p.job j is) (part_there f j.job p.layer p.frame none)

  pub end_accepted : (p : Place) → place_refusal f p ≡ None → is_end_there f (end_of f p) ≡ true
  end_accepted p none = end_by p (pending_named f p.job) refl none

-- ---- frames that wait

module _ (slots : List SlotRow) (slot : ℕ) (running : runs_at slots slot ≡ true) where
  none_waits : (ws : List ℕ) → find (runs_at slots) ws ≡ None → list_any (λ (w : ℕ). eqb w slot) ws ≡ false
  none_waits [] none = refl
  none_waits (w ∷ ws) none =
      let first = refused_by (runs_at slots w) w (find (runs_at slots) ws) none in
      or_from _ _ (ne_eqb w slot (λ same. true≢false (sym running ∙ (ap (runs_at slots) (sym same) ∙ first.0)))) (none_waits ws first.1)

  -- a frame that runs waits in none of the groups
  pub waits_in_none : (gs : List Group) → runs_already slots gs ≡ None → (n : ℕ) (g : Group) → slice_get gs n ≡ Some g → waits_in slot g ≡ false
  waits_in_none [] none n g at = absurd (none-some g at)
  waits_in_none (h ∷ hs) none zero g at = subst (λ (x : Group). waits_in slot x ≡ false) (same_Some h g at) (none_waits h.waiters (neither (find (runs_at slots) h.waiters) _ none).0)
  waits_in_none (h ∷ hs) none (suc n) g at = waits_in_none hs (neither (find (runs_at slots) h.waiters) _ none).1 n g at

-- ---- a depend that isn't refused

pub record Accepted (f : Farm) (spec : DependSpec) : Type 0 where
  pub waiter : is_end_there f (end_of f spec.waiter) ≡ true
  pub target : is_end_there f (end_of f spec.target) ≡ true
  pub apart : waits_for_itself (new_groups f spec) ≡ None
  pub still : runs_already f.slots (new_groups f spec) ≡ None
  pub room : HasRoom f (length (new_groups f spec))

depend_parts : (f : Farm) (spec : DependSpec) → depend_refusal f spec ≡ None → (place_refusal f spec.waiter ≡ None) × (place_refusal f spec.target ≡ None) × (groups_refusal f (new_groups f spec) ≡ None)
unfolding depend_refusal
depend_parts f spec none =
    let first = neither (place_refusal f spec.waiter) (or_else (place_refusal f spec.target) (groups_refusal f (new_groups f spec))) none in
    let second = neither (place_refusal f spec.target) (groups_refusal f (new_groups f spec)) first.1 in
    (first.0, second.0, second.1)

pub accepted : (f : Farm) (spec : DependSpec) → IsRising job_key 1 f.jobs f.next_job → depend_refusal f spec ≡ None → Accepted f spec
accepted f spec rise none =
    let parts = depend_parts f spec none in
    let gs = new_groups f spec in
    let others = neither (option_map (λ slot. SelfDepend (frame_name_at f slot)) (waits_for_itself gs)) _ parts.2 in
    let rest = neither (option_map (λ slot. Started (frame_name_at f slot)) (runs_already f.slots gs)) (depends_full f (length gs)) others.1 in
    record {
      waiter = end_accepted f rise spec.waiter parts.0;
      target = end_accepted f rise spec.target parts.1;
      apart = none_mapped (λ slot. SelfDepend (frame_name_at f slot)) (waits_for_itself gs) others.0;
      still = none_mapped (λ slot. Started (frame_name_at f slot)) (runs_already f.slots gs) rest.0;
      room = has_room f (length gs) rest.1;
    }
