-- Which of a new job's frames its depends block.
use Rattle.std.proofs.Common.{◌≡◌, ℕ, zero, suc, ◌&&◌, ◌||◌, Bool, true, false, cond, not, eqb, List, [], ◌∷◌, ◌++◌, length, filter, get_or, Option, Some, None, All, refl, sym, ap, subst, ◌∙◌, arith}
use Rattle.std.specs.Prelude.{nat_eq}
use Rattle.std.specs.List.{IsDistinct, list_all, slice_get}
use Rattle.std.proofs.lemmas.Bool.{eq-eqb, eqb-true, lt-ltb, false≢true}
use Rattle.std.proofs.lemmas.List.Elements.{All-filter}
use Rattle.std.proofs.lemmas.List.Folds.{list_all-append}
use Rattle.std.specs.Cmp.Derive.{both_true}
use Rattle.std.proofs.lemmas.Option.{none-some, same_Some, slice_get-get_or, slice_get_within}
use Rattle.farm_types.specs.declared.depend.DependSpec.{DependSpec}
use Rattle.farm_types.specs.declared.depend.Group.{Group}
use Rattle.farm_types.specs.declared.depend.Shape.{Shape}
use Rattle.farm_types.specs.declared.job.JobSpec.{JobSpec}
use Rattle.farm_types.specs.declared.limits.TheConstants.{SLOT_LIMIT}
use Rattle.farm_types.specs.declared.rows.JobRow.{JobRow}
use Rattle.farm_types.specs.declared.slot_row.Frame.{Frame}
use Rattle.farm_types.specs.declared.slot_row.SlotRow.{SlotRow}
use Rattle.farm_types.specs.DependActs.{new_groups, place_refusal}
use Rattle.farm_types.specs.Depends.{is_done, is_done_state, shape_of}
use Rattle.farm_types.specs.Farm.{Farm, for_some}
use Rattle.farm_types.specs.Groups.{all_slots}
use Rattle.farm_types.specs.Jobs.{frames_of, is_finished_named, is_free, place_frames, slot_with, without_finished}
use Rattle.farm_types.specs.Kept.{is_of_pending}
use Rattle.farm_types.specs.Rising.{job_key}
use Rattle.farm_types.proofs.Lists.{and_both, list_all-from_at}
use Rattle.farm_law.proofs.Filtered.{rising-filter}
use Rattle.farm_law.proofs.KeptJobsAdded.{new_pending}
use Rattle.depend_book.specs.declared.new_depend.NewDepend.{NewDepend}
use Rattle.depend_graph.specs.Graph.{is_below, is_flagged}
use Rattle.depend_law.proofs.Among.{Among, among_cons, among_none, among_skip}
use Rattle.depend_law.proofs.Placed.{HoldsOf, ShapeHolds}
use Rattle.depend_law.proofs.Waiters.{job_shape}
use Rattle.job_book.proofs.PlacementLemmas.Placed.{all_of, no_frame}
use Rattle.farm_depends.specs.declared.new_depends.own_job.OwnJob.{OwnJob}
use Rattle.farm_depends.specs.Coming.{all_unmet_by, all_unmet_waiters, each_coming, is_unmet, unmet_by, unmet_waiters, waiters_of}
use Rattle.farm_depends.specs.Follow.{IsMovable, is_listed}
use Rattle.farm_depends.specs.Placed.{CanPlace, IsOwn, blocked_own, placed}
use Rattle.farm_depends.proofs.ComingLemmas.AddedFollows.{waiting_movable}
use Rattle.farm_depends.proofs.Agree.{unmet_agree}
use Rattle.farm_depends.proofs.ComingLemmas.ComingGroups.{waiter_among}
use Rattle.farm_depends.proofs.ComingLemmas.PlacedEnds.{own_number_of}
use Rattle.farm_depends.proofs.ComingLemmas.PlacedFarm.{IsPlaced, own_waits, placed_is}

-- ---- what is listed

pub listed_at : (ns : List ℕ) (k n : ℕ) → slice_get ns k ≡ Some n → is_listed ns n ≡ true
listed_at [] k n at = absurd (none-some n at)
listed_at (m ∷ ns) zero n at = ap (λ (b : Bool). b || is_listed ns n) (eq-eqb m n (same_Some m n at))
listed_at (m ∷ ns) (suc k) n at = or_true (eqb m n) (is_listed ns n) (listed_at ns k n at)
  where
    or_true : (a b : Bool) → b ≡ true → (a || b) ≡ true
    or_true true b is = refl
    or_true false b is = is

kept_step : (test : ℕ → Bool) (n slot : ℕ) (b c : Bool) (later : Bool) → test n ≡ b → eqb n slot ≡ c → (c ≡ true → n ≡ slot) → (cond b (c || (test slot && later)) (test slot && later)) ≡ (test slot && (c || later))
kept_step test n slot true false later passes is same = refl
kept_step test n slot false false later passes is same = refl
kept_step test n slot true true later passes is same = sym (ap (λ (b : Bool). b && true) (sym (ap test (same refl)) ∙ passes))
kept_step test n slot false true later passes is same =
    let fails : test slot ≡ false = sym (ap test (same refl)) ∙ passes in
    ap (λ (b : Bool). b && later) fails ∙ sym (ap (λ (b : Bool). b && true) fails)

kept_cons : (test : ℕ → Bool) (n slot : ℕ) (ns : List ℕ) (b : Bool) → test n ≡ b → is_listed (cond b (n ∷ filter test ns) (filter test ns)) slot ≡ cond b (eqb n slot || is_listed (filter test ns) slot) (is_listed (filter test ns) slot)
kept_cons test n slot ns true is = refl
kept_cons test n slot ns false is = refl

-- what is kept by a test is listed where it passes and was listed
listed_kept : (test : ℕ → Bool) (ns : List ℕ) (slot : ℕ) → is_listed (filter test ns) slot ≡ (test slot && is_listed ns slot)
listed_kept test [] slot = none_and (test slot)
  where
    none_and : (b : Bool) → false ≡ (b && false)
    none_and true = refl
    none_and false = refl
listed_kept test (n ∷ ns) slot =
    kept_cons test n slot ns (test n) refl
    ∙ (ap (λ (b : Bool). cond (test n) (eqb n slot || b) b) (listed_kept test ns slot) ∙ kept_step test n slot (test n) (eqb n slot) (is_listed ns slot) refl refl (eqb-true n slot))

-- those listed that are all among others
listed_among : (us ns : List ℕ) → list_all (is_listed ns) us ≡ true → (slot : ℕ) → is_listed (filter (is_listed us) ns) slot ≡ is_listed us slot
listed_among us ns all slot = listed_kept (is_listed us) ns slot ∙ by (is_listed us slot) (within us all slot)
  where
    here : (b c : Bool) (u s : ℕ) → eqb u s ≡ b → (b || c) ≡ true → (c ≡ true → is_listed ns s ≡ true) → is_listed ns u ≡ true → is_listed ns s ≡ true
    here true c u s is listed later first = subst (λ (m : ℕ). is_listed ns m ≡ true) (eqb-true u s is) first
    here false c u s is listed later first = later listed

    within : (vs : List ℕ) → list_all (is_listed ns) vs ≡ true → (s : ℕ) → is_listed vs s ≡ true → is_listed ns s ≡ true
    within [] every s listed = absurd (false≢true listed)
    within (v ∷ vs) every s listed =
        let both = and_both (is_listed ns v) (list_all (is_listed ns) vs) every in
        here (eqb v s) (is_listed vs s) v s refl listed (within vs both.1 s) both.0

    by : (b : Bool) → (b ≡ true → is_listed ns slot ≡ true) → (b && is_listed ns slot) ≡ b
    by true in_ns = in_ns refl
    by false in_ns = refl

-- fewer of what differs
kept_among : (test : ℕ → Bool) (ns : List ℕ) → Among (filter test ns) ns
kept_among test [] = among_none []
kept_among test (n ∷ ns) = step (test n) (kept_among test ns)
  where
    step : (b : Bool) → Among (filter test ns) ns → Among (cond b (n ∷ filter test ns) (filter test ns)) (n ∷ ns)
    step true later = among_cons n (filter test ns) ns later
    step false later = among_skip n (filter test ns) ns later

-- ---- frames that are done

module _ (slot : ℕ) where
  abbrev not_done : Frame → Bool
  not_done x = not (is_done_state x.state)

  fails : (b : Bool) → not b ≡ true → b ≡ false
  fails true h = absurd (false≢true h)
  fails false h = refl

-- placed frames that aren't done leave what is done
placed_done : (slots : List SlotRow) (frames : List Frame) (slot : ℕ) → list_all (λ (x : Frame). not (is_done_state x.state)) frames ≡ true → is_done (place_frames slots frames) slot ≡ is_done slots slot
placed_done [] [] slot undone = refl
placed_done [] (x ∷ xs) zero undone = fails zero (is_done_state x.state) (and_both (not (is_done_state x.state)) (list_all (λ (y : Frame). not (is_done_state y.state)) xs) undone).0
placed_done [] (x ∷ xs) (suc slot) undone = placed_done [] xs slot (and_both (not (is_done_state x.state)) (list_all (λ (y : Frame). not (is_done_state y.state)) xs) undone).1
placed_done (s ∷ ss) [] slot undone = refl
placed_done (s ∷ ss) (x ∷ xs) slot undone =
    let both = and_both (not (is_done_state x.state)) (list_all (λ (y : Frame). not (is_done_state y.state)) xs) undone in
    step (is_free s) slot refl (fails zero (is_done_state x.state) both.0) (λ k. placed_done ss xs k both.1) (λ k. placed_done ss (x ∷ xs) k undone)
  where
    step : (b : Bool) (k : ℕ) → is_free s ≡ b → is_done_state x.state ≡ false → ((n : ℕ) → is_done (place_frames ss xs) n ≡ is_done ss n) → ((n : ℕ) → is_done (place_frames ss (x ∷ xs)) n ≡ is_done ss n)
        → is_done (cond b (slot_with x s ∷ place_frames ss xs) (s ∷ place_frames ss (x ∷ xs))) k ≡ is_done (s ∷ ss) k
    step true zero free new here later = new ∙ sym (ap (λ (o : Option Frame). for_some o (λ y. is_done_state y.state)) (no_frame s free))
    step true (suc k) free new here later = here k
    step false zero free new here later = refl
    step false (suc k) free new here later = later k

-- a frame that is done was done
pub done_same : (f : Farm) (spec : JobSpec) → CanPlace f spec → (slot : ℕ) → is_done (placed f spec).slots slot ≡ is_done f.slots slot
done_same f spec can slot =
    let is = placed_is f spec can.accepted in
    ap (λ (ss : List SlotRow). is_done ss slot) is.slots
    ∙ placed_done f.slots (frames_of f.next_job 0 spec.layers) slot (all_of (λ (o : Option Frame). not (for_some o (λ x. is_done_state x.state))) f.next_job 0 spec.layers (λ l q n. refl))

-- ---- the job

module _ (f : Farm) (spec : JobSpec) (can : CanPlace f spec) (own : OwnJob) (mine : IsOwn f spec own) where
  abbrev farm : Farm
  farm = placed f spec

  abbrev slots : List ℕ
  slots = all_slots own.shape.layers

  is : IsPlaced f spec farm
  is = placed_is f spec can.accepted

  shape : ShapeHolds farm.layers farm.slots f.next_job
  shape =
      job_shape farm can.rows_then f.next_job
      (ap (λ (js : List JobRow). is_of_pending js f.next_job) is.jobs ∙ new_pending (without_finished spec.name f.jobs) f.next_job is.show spec
      (rising-filter job_key (λ (j : JobRow). not (is_finished_named spec.name j)) 1 f.jobs f.next_job can.rows.jobs.jobs_rise))

  slots_are : slots ≡ all_slots (shape_of farm f.next_job).layers
  slots_are = ap (λ (s : Shape). all_slots s.layers) mine.shape_is

  slot_holds : (k slot : ℕ) → slice_get slots k ≡ Some slot → HoldsOf farm.slots f.next_job slot
  slot_holds k slot at = shape.each k slot (sym (ap (λ (ns : List ℕ). slice_get ns k) slots_are) ∙ at)

  -- its slots are the farm's
  pub slots_below : list_all is_below slots ≡ true
  slots_below =
      list_all-from_at is_below slots
      (λ k slot at. let h = (slot_holds k slot at).1 in lt-ltb slot SLOT_LIMIT (omega (arith, slice_get_within farm.slots slot h.row h.at, can.rows_then.jobs.slot_count)))

  -- and their frames have no attempts
  slots_movable : All (IsMovable farm.slots) slots
  slots_movable k d within =
      waiting_movable farm can.rows_then.sound (get_or slots k d)
      (own_waits f spec farm is (length f.shows) can.rows.jobs (get_or slots k d) (slot_holds k (get_or slots k d) (slice_get-get_or slots k d within)))

  module _ (done : List Bool) (ns : List NewDepend) where
    pub blocked_movable : All (IsMovable farm.slots) (blocked_own done own ns)
    blocked_movable = All-filter (is_listed (all_unmet_by done ns)) (IsMovable farm.slots) slots slots_movable

    pub blocked_differ : IsDistinct nat_eq (blocked_own done own ns)
    blocked_differ = (kept_among (is_listed (all_unmet_by done ns)) slots).differ (subst (IsDistinct nat_eq) (sym slots_are) shape.differ)

  -- ---- who waits unmet

  module _ (done : List Bool) (flags : (slot : ℕ) → is_flagged done slot ≡ is_done f.slots slot) where
    unmet_same : (gs : List Group) → unmet_by done gs ≡ waiters_of (filter (is_unmet farm.slots) gs)
    unmet_same gs = ap waiters_of (unmet_agree (is_flagged done) (is_done farm.slots) (λ slot. flags slot ∙ sym (done_same f spec can slot)) gs)

    pub all_unmet_same : (specs : List DependSpec) → all_unmet_by done (each_coming farm specs) ≡ all_unmet_waiters farm specs
    all_unmet_same [] = refl
    all_unmet_same (s ∷ ss) = ap (λ (ms : List ℕ). ms ++ all_unmet_by done (each_coming farm ss)) (unmet_same (new_groups farm s)) ∙ ap (λ (ms : List ℕ). unmet_waiters farm s ++ ms) (all_unmet_same ss)

  all_listed : (test : Group → Bool) (gs : List Group) → ((n : ℕ) (g : Group) → slice_get gs n ≡ Some g → list_all (is_listed slots) g.waiters ≡ true) → list_all (is_listed slots) (waiters_of (filter test gs)) ≡ true
  all_listed test [] each = refl
  all_listed test (g ∷ gs) each = step (test g) (each 0 g refl) (all_listed test gs (λ n h at. each (suc n) h at))
    where
      step : (b : Bool) → list_all (is_listed slots) g.waiters ≡ true → list_all (is_listed slots) (waiters_of (filter test gs)) ≡ true → list_all (is_listed slots) (waiters_of (cond b (g ∷ filter test gs) (filter test gs))) ≡ true
      step true first later = list_all-append (is_listed slots) g.waiters (waiters_of (filter test gs)) ∙ both_true first later
      step false first later = later

  group_listed : (d : DependSpec) → d.waiter.job ≡ spec.name → place_refusal farm d.waiter ≡ None → place_refusal farm d.target ≡ None → (n : ℕ) (g : Group) → slice_get (new_groups farm d) n ≡ Some g → list_all (is_listed slots) g.waiters ≡ true
  group_listed d same w t n g at =
      list_all-from_at (is_listed slots) g.waiters
      (λ k slot there.
      let among = waiter_among farm can.rows_then d w t n g at in
      let found = among.members k slot there in
      listed_at slots found.0 slot (ap (λ (ms : List ℕ). slice_get ms found.0) slots_are ∙ (ap (λ (job : ℕ). slice_get (all_slots (shape_of farm job).layers) found.0) (sym (own_number_of f spec can d.waiter same)) ∙ found.1)))

  unmet_listed : (specs : List DependSpec) → ((n : ℕ) (d : DependSpec) → slice_get specs n ≡ Some d → (d.waiter.job ≡ spec.name) × (place_refusal farm d.waiter ≡ None) × (place_refusal farm d.target ≡ None))
      → list_all (is_listed slots) (all_unmet_waiters farm specs) ≡ true
  unmet_listed [] each = refl
  unmet_listed (d ∷ ds) each =
      let first = each 0 d refl in
      list_all-append (is_listed slots) (unmet_waiters farm d) (all_unmet_waiters farm ds)
      ∙ both_true (all_listed (is_unmet farm.slots) (new_groups farm d) (group_listed d first.0 first.1 first.2)) (unmet_listed ds (λ n e at. each (suc n) e at))

  -- exactly those of the job's frames are blocked that wait unmet
  pub blocked_are : (done : List Bool) → ((slot : ℕ) → is_flagged done slot ≡ is_done f.slots slot) → (specs : List DependSpec)
      → ((n : ℕ) (d : DependSpec) → slice_get specs n ≡ Some d → (d.waiter.job ≡ spec.name) × (place_refusal farm d.waiter ≡ None) × (place_refusal farm d.target ≡ None))
      → (slot : ℕ) → is_listed (blocked_own done own (each_coming farm specs)) slot ≡ is_listed (all_unmet_waiters farm specs) slot
  blocked_are done flags specs each slot =
      ap (λ (us : List ℕ). is_listed (filter (is_listed us) slots) slot) (all_unmet_same done flags specs) ∙ listed_among (all_unmet_waiters farm specs) slots (unmet_listed specs each) slot
