-- A frame that waits is open, and stays so while depends of another job come and are settled.
use Rattle.std.proofs.Common.{◌≡◌, ℕ, ◌+◌, Bool, true, false, cond, ◌&&◌, ◌||◌, not, eqb, List, [], ◌∷◌, ◌++◌, Option, Some, None, refl, sym, ap, subst, ◌∙◌, arith}
use Rattle.std.specs.List.{AllByRecursion, filter, find, list_all, list_any, slice_get}
use Rattle.std.proofs.lemmas.Bool.{ne_eqb, not-false, not_from_false, or_parts, or_right}
use Rattle.std.proofs.lemmas.Cmp.{nat_list_eq_equiv}
use Rattle.std.proofs.lemmas.Option.{none-some}
use Rattle.farm_types.specs.declared.depend.DependRow.{DependRow}
use Rattle.farm_types.specs.declared.depend.DependSpec.{DependSpec}
use Rattle.farm_types.specs.declared.depend.Group.{Group}
use Rattle.farm_types.specs.declared.job.JobSpec.{JobSpec}
use Rattle.farm_types.specs.declared.refusal.Refusal.{Refusal}
use Rattle.farm_types.specs.declared.refusal.Refusal.TheVariants.{Exists, Unknown}
use Rattle.farm_types.specs.declared.slot_row.Frame.{Frame}
use Rattle.farm_types.specs.declared.slot_row.SlotRow.{SlotRow}
use Rattle.farm_types.specs.Booking.{is_waiting}
use Rattle.farm_types.specs.DependActs.{add_depend, add_depends, depend_refusal, depends_refusal, is_running, new_depend, new_groups, number_of, pending_named}
use Rattle.farm_types.specs.Depends.{groups_of, is_met, is_open, waits_in}
use Rattle.farm_types.specs.Farm.{Farm, for_some, has_facility}
use Rattle.farm_types.specs.Formed.{IsFormedOwn}
use Rattle.farm_types.specs.Jobs.{is_finished_named, is_pending_named, job_row, layers_refusal, repeated_name, without_finished}
use Rattle.farm_types.specs.Kept.{KeepsDepends, KeepsRows}
use Rattle.farm_types.specs.Rising.{IsRising, depend_key}
use Rattle.farm_types.specs.Settle.{settle, with_met, with_opened}
use Rattle.farm_types.specs.Step.{after_submit, limits_refusal, lists_of, submit_refusal, unknown_limit}
use Rattle.farm_types.proofs.Lists.{list_all-from_at}
use Rattle.farm_law.proofs.KeptFollowed.{kept_added}
use Rattle.farm_law.proofs.KeptJobsLists.{found_later, rising-append}
use Rattle.farm_law.proofs.KeptLimits.{limits_known}
use Rattle.farm_law.proofs.KeptLists.{list_all-more}
use Rattle.farm_law.proofs.KeptNames.{accepted_by}
use Rattle.farm_law.proofs.KeptRuns.{neither}
use Rattle.depend_law.proofs.Accepted.{accepted}
use Rattle.depend_law.proofs.MetAgain.{open_met}
use Rattle.depend_law.proofs.NewJob.{none_any}
use Rattle.depend_law.proofs.Placed.{HoldsOf}
use Rattle.depend_law.proofs.Shapes.{opened_frames}
use Rattle.depend_law.proofs.Stable.{is_open_in, open_same, same_groups}
use Rattle.depend_law.proofs.Turns.{on_frame}
use Rattle.depend_law.proofs.Waiters.{depend_holds}

-- ---- waiting frames

either_of : (frame : Option Frame) → on_frame is_waiting frame ≡ true → for_some frame (λ (x : Frame). is_waiting x.state || is_running x.state) ≡ true
either_of None h = h
either_of (Some x) h = ap (λ (b : Bool). b || is_running x.state) h

-- a frame that waits is open
pub waiting_open : (f : Farm) → KeepsDepends f → (slot : ℕ) (s : SlotRow) → slice_get f.slots slot ≡ Some s → on_frame is_waiting s.frame ≡ true
    → is_open f slot ≡ true
waiting_open f k slot s at h =
    not-false (is_open f slot) (ap (λ (b : Bool). b && not (is_open f slot)) (sym (either_of s.frame h)) ∙ k.free_to_run slot s at)

-- ---- a depend that comes

module _ (f : Farm) (spec : DependSpec) where
  groups_added : groups_of (add_depend f spec) ≡ groups_of f
  unfolding groups_of
  groups_added = refl

  -- what was open stays open, where the frame waits in none of the new groups
  open_added : (slot : ℕ) → is_open f slot ≡ true → ((n : ℕ) (g : Group) → slice_get (new_groups f spec) n ≡ Some g → waits_in slot g ≡ false)
      → is_open (add_depend f spec) slot ≡ true
  open_added slot open_now none =
      ap (λ (groups : DependRow → List Group). list_all (λ d. list_all (λ g. is_met f d g || not (waits_in slot g)) (groups d)) (f.depends ++ new_depend f spec ∷ [])) groups_added
      ∙ list_all-more (is_open_in f slot) f.depends (new_depend f spec) open_now
      (list_all-from_at (λ g. is_met f (new_depend f spec) g || not (waits_in slot g)) (new_groups f spec) (λ n g at. or_right _ _ (not_from_false (waits_in slot g) (none n g at))))

  -- where all who wait in it are of a job, a slot with a frame of another job waits in none of its groups
  apart_from : KeepsRows f → (job slot : ℕ) → depend_refusal f spec ≡ None → (new_depend f spec).waiter.job ≡ job → (HoldsOf f.slots job slot → ⊥)
      → (n : ℕ) (g : Group) → slice_get (new_groups f spec) n ≡ Some g → waits_in slot g ≡ false
  apart_from rows job slot none own apart n g at =
      let taken = accepted f spec rows.jobs.jobs_rise none in
      let holds = depend_holds f rows (new_depend f spec) taken.waiter taken.target in
      none_any (λ w. eqb w slot) g.waiters
      (λ m w here. ne_eqb w slot (λ e. apart (subst (HoldsOf f.slots job) e (subst (λ (k : ℕ). HoldsOf f.slots k w) own ((holds.waiters n g at).hold m w here)))))

-- depends in turn, in all of which frames of one job wait
pub open_adds : (f : Farm) (name : List ℕ) (job slot : ℕ) (specs : List DependSpec) → KeepsRows f → AllByRecursion (IsFormedOwn name) specs
    → depends_refusal f specs ≡ None
    → number_of (pending_named f name) ≡ job → (HoldsOf f.slots job slot → ⊥) → is_open f slot ≡ true → is_open (add_depends f specs) slot ≡ true
open_adds f name job slot [] rows formed none named apart open_now = open_now
open_adds f name job slot (spec ∷ specs) rows formed none named apart open_now =
    let both = neither (depend_refusal f spec) (depends_refusal (add_depend f spec) specs) none in
    let own : (new_depend f spec).waiter.job ≡ job = ap (λ (n : List ℕ). number_of (pending_named f n)) formed.0.own ∙ named in
    open_adds (add_depend f spec) name job slot specs (kept_added f spec rows) formed.1 both.1 named apart
    (open_added f spec slot open_now (apart_from f spec rows job slot both.0 own apart))

-- they are in the order of their numbers
pub rise_adds : (f : Farm) (specs : List DependSpec) → IsRising depend_key 1 f.depends f.next_depend
    → IsRising depend_key 1 (add_depends f specs).depends (add_depends f specs).next_depend
rise_adds f [] rise = rise
rise_adds f (spec ∷ specs) rise =
    rise_adds (add_depend f spec) specs (rising-append depend_key 1 f.next_depend (f.next_depend + 1) f.depends (new_depend f spec ∷ []) rise (omega arith, omega arith))

-- ---- what is settled

pub open_settled : (f : Farm) (high slot : ℕ) → IsRising depend_key 1 f.depends high → is_open f slot ≡ true → is_open (settle f) slot ≡ true
unfolding settle
open_settled f high slot rise open_now =
    let met = with_met f in
    open_same met (with_opened met) (same_groups met (with_opened met) refl refl refl (opened_frames met 0 f.slots)) slot ∙ open_met f high rise slot open_now

-- ---- the job of a new name

refused_first : (b : Bool) (x : Refusal) (rest : Option Refusal) → cond b (Some x) rest ≡ None → b ≡ false
refused_first true x rest none = absurd (none-some x (sym none))
refused_first false x rest none = refl

kept_step : {X : Type 0} (test : X → Bool) (x : X) (xs : List X) (b : Bool) → test x ≡ false → find test xs ≡ None → find test (cond b (x ∷ xs) xs) ≡ None
kept_step test x xs true fails none = ap (λ (c : Bool). cond c (Some x) (find test xs)) fails ∙ none
kept_step test x xs false fails none = none

none_kept : {X : Type 0} (test keep : X → Bool) (xs : List X) → list_any test xs ≡ false → find test (filter keep xs) ≡ None
none_kept test keep [] none = refl
none_kept test keep (x ∷ xs) none =
    let both = or_parts (test x) (list_any test xs) none in
    kept_step test x (filter keep xs) (keep x) both.0 (none_kept test keep xs both.1)

-- the pending job of a name that is submitted is the new one
pub named_next : (f : Farm) (spec : JobSpec) (show : ℕ) → submit_refusal f spec (Some show) ≡ None
    → number_of (pending_named (after_submit f spec (Some show)) spec.name) ≡ f.next_job
named_next f spec show none =
    let unknown = unknown_limit f.limits spec.layers in
    let taken = (limits_known f spec unknown (accepted_by (has_facility f spec.facility) (limits_refusal f spec unknown) (Unknown spec.facility) none)).1 in
    let new = refused_first (list_any (is_pending_named spec.name) f.jobs) (Exists spec.name) (layers_refusal (lists_of f) spec (repeated_name [] spec.layers)) taken in
    ap number_of
    (found_later (is_pending_named spec.name) (without_finished spec.name f.jobs) (job_row f.next_job show spec ∷ [])
    (none_kept (is_pending_named spec.name) (λ j. not (is_finished_named spec.name j)) f.jobs new)
    ∙ ap (λ (b : Bool). cond b (Some (job_row f.next_job show spec)) None) (nat_list_eq_equiv.refl spec.name))
