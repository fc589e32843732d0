-- The groups of a depend whose ends are there, and what is refused of it.
use Rattle.std.proofs.Common.{◌≡◌, ℕ, ◌≤◌, List, [], ◌∷◌, ◌++◌, length, get_or, Option, None, Some, Err, All, refl, sym, ap, ◌∙◌, arith}
use Rattle.std.specs.List.{slice_get}
use Rattle.std.proofs.lemmas.Option.{slice_get-get_or}
use Rattle.farm_types.specs.declared.depend.DependSpec.{DependSpec}
use Rattle.farm_types.specs.declared.depend.Group.{Group}
use Rattle.farm_types.specs.declared.limits.TheConstants.{MOST_FRAMES}
use Rattle.farm_types.specs.declared.refusal.Refusal.{Refusal}
use Rattle.farm_types.specs.DependActs.{end_of, new_depend, new_groups, or_else, place_refusal}
use Rattle.farm_types.specs.Depends.{groups_of, shape_of}
use Rattle.farm_types.specs.Farm.{Farm}
use Rattle.farm_types.specs.Groups.{all_slots, groups_by, part_at, part_of}
use Rattle.farm_types.specs.Kept.{KeepsRows}
use Rattle.depend_graph.specs.Graph.{IsGroup}
use Rattle.depend_law.proofs.Among.{Among, among_then}
use Rattle.depend_law.proofs.Placed.{HoldsOf}
use Rattle.depend_law.proofs.GroupSlots.{group_waiters, groups_among}
use Rattle.depend_law.proofs.Waiters.{DependHolds, all_waiters, depend_holds, end_pending, job_shape}
use Rattle.farm_types.specs.declared.fault.FarmFault.{FarmFault}
use Rattle.farm_types.specs.declared.fault.FarmFault.TheVariants.{Refused, NoMemory}
use Rattle.farm_depends.specs.declared.new_depends.room.Counts.{Counts}
use Rattle.farm_places.specs.declared.ends.FoundEnd.{FoundEnd}
use Rattle.farm_depends.specs.Coming.{Comes, groups_refusal_with, refusal_with, waiters_of}
use Rattle.farm_types.specs.Faults.{Refuses}
use Rattle.farm_places.specs.Ends.{FindsEnd, IsEnd}
use Rattle.farm_places.proofs.ShownParts.{groups_shown}
use Rattle.farm_depends.proofs.ComingLemmas.ToCome.{place_there}

module _ (f : Farm) (rows : KeepsRows f) (spec : DependSpec) (waiter : place_refusal f spec.waiter ≡ None) (target : place_refusal f spec.target ≡ None) where
  holds : DependHolds f (new_depend f spec) (new_groups f spec)
  holds = depend_holds f rows (new_depend f spec) (place_there f rows spec.waiter waiter) (place_there f rows spec.target target)

  -- no slot stands twice in a group, and each is one of the farm's
  pub new_are_groups : All IsGroup (new_groups f spec)
  new_are_groups n g within =
      let at = slice_get-get_or (new_groups f spec) n g within in
      let waits = holds.waiters n (get_or (new_groups f spec) n g) at in
      let waited = holds.targets n (get_or (new_groups f spec) n g) at in
      record { waiters_differ = waits.differ; targets_differ = waited.differ; waiters_within = waits.within; targets_within = waited.within }

  same_waiters : (gs : List Group) → waiters_of gs ≡ all_waiters gs
  same_waiters [] = refl
  same_waiters (g ∷ gs) = ap (λ (ns : List ℕ). g.waiters ++ ns) (same_waiters gs)

  -- there are no more who wait than a job has frames
  pub new_waiters_few : length (waiters_of (new_groups f spec)) ≤ MOST_FRAMES
  new_waiters_few = omega (arith, ap length (same_waiters (new_groups f spec)), holds.count)

-- ---- refusals in turn

-- where the first end is refused
pub first_refused : (f : Farm) (c : Counts) (spec : DependSpec) (fault : FarmFault) → FindsEnd f spec.waiter (Err fault) → Comes f c spec (Err fault)
first_refused f c spec (Refused why) refused = ap (λ (o : Option Refusal). or_else o (or_else (place_refusal f spec.target) (groups_refusal_with f c (new_groups f spec)))) refused
first_refused f c spec NoMemory refused = tt

pub second_refused : (f : Farm) (c : Counts) (spec : DependSpec) (fault : FarmFault) → place_refusal f spec.waiter ≡ None → FindsEnd f spec.target (Err fault) → Comes f c spec (Err fault)
second_refused f c spec (Refused why) accepted refused =
    ap (λ (o : Option Refusal). or_else o (or_else (place_refusal f spec.target) (groups_refusal_with f c (new_groups f spec)))) accepted ∙ ap (λ (o : Option Refusal). or_else o (groups_refusal_with f c (new_groups f spec))) refused
second_refused f c spec NoMemory accepted refused = tt

module _ (f : Farm) (c : Counts) (spec : DependSpec) (waiter : place_refusal f spec.waiter ≡ None) (target : place_refusal f spec.target ≡ None) (groups : List Group) (are : groups ≡ new_groups f spec) where
  pub refusal_is : refusal_with f c spec ≡ groups_refusal_with f c groups
  refusal_is =
      ap (λ (o : Option Refusal). or_else o (or_else (place_refusal f spec.target) (groups_refusal_with f c (new_groups f spec)))) waiter
      ∙ (ap (λ (o : Option Refusal). or_else o (groups_refusal_with f c (new_groups f spec))) target ∙ ap (groups_refusal_with f c) (sym are))

  pub third_refused : (X : Type 0) (fault : FarmFault) → Refuses {X = X} (groups_refusal_with f c groups) (Err fault) → Comes f c spec (Err fault)
  third_refused X (Refused why) refused = refusal_is ∙ refused
  third_refused X NoMemory refused = tt

-- groups from shapes of two ends that are there
pub found_groups : (f : Farm) (spec : DependSpec) (waiter target : FoundEnd) → IsEnd f spec.waiter waiter → IsEnd f spec.target target
    → groups_by spec.kind spec.any (part_of spec.waiter) (part_of spec.target) waiter.shape target.shape ≡ new_groups f spec
found_groups f spec waiter target w t = groups_shown f spec waiter.shape target.shape w.shows t.shows

-- ---- who waits

module _ (f : Farm) (rows : KeepsRows f) (spec : DependSpec) (waiter : place_refusal f spec.waiter ≡ None) (target : place_refusal f spec.target ≡ None) where
  -- those who wait hold frames of the waiting job
  pub waiter_holds : (n : ℕ) (g : Group) → slice_get (new_groups f spec) n ≡ Some g → (k slot : ℕ) → slice_get g.waiters k ≡ Some slot → HoldsOf f.slots (end_of f spec.waiter).job slot
  waiter_holds n g at k slot there = let of_job = (holds f rows spec waiter target).waiters n g at in of_job.hold k slot there

  -- and they are among its frames
  pub waiter_among : (n : ℕ) (g : Group) → slice_get (new_groups f spec) n ≡ Some g → Among g.waiters (all_slots (shape_of f (end_of f spec.waiter).job).layers)
  unfolding groups_of
  waiter_among n g at =
      let own = shape_of f (end_of f spec.waiter).job in
      let other = shape_of f (end_of f spec.target).job in
      let few = (job_shape f rows (end_of f spec.waiter).job (end_pending f rows (end_of f spec.waiter) (place_there f rows spec.waiter waiter))).most in
      let all = groups_among MOST_FRAMES spec.any (part_at (end_of f spec.waiter)) (part_at (end_of f spec.target)) own other (omega arith) few spec.kind in
      among_then g.waiters (all_waiters (new_groups f spec)) (all_slots own.layers) (group_waiters (new_groups f spec) n g at) all.wait
