-- Ends of a job's depends in the farm with the job, and what is refused of them.
use Rattle.std.proofs.Common.{◌≡◌, ℕ, suc, ◌||◌, Bool, true, false, cond, eqb, List, [], ◌∷◌, ◌++◌, length, Option, Some, None, Err, Ok, Result, All, option_map, refl, sym, ap, subst, ◌∙◌, arith}
use Rattle.std.specs.List.{find, list_any, position_or_len, slice_get}
use Rattle.std.specs.Str.{bytes_eq}
use Rattle.std.specs.Cmp.Lexicographic.{nat_list_eq_equiv}
use Rattle.std.proofs.lemmas.Slice.Eq.{bytes_eq-Decides}
use Rattle.std.proofs.lemmas.Bool.{ne_eqb, false≢true}
use Rattle.std.proofs.lemmas.List.Folds.{find_at, list_any-append}
use Rattle.std.proofs.lemmas.Option.{none-some}
use Rattle.farm_types.specs.declared.depend.DependEnd.{DependEnd}
use Rattle.farm_types.specs.declared.depend.DependSpec.{DependSpec}
use Rattle.farm_types.specs.declared.depend.Group.{Group}
use Rattle.farm_types.specs.declared.depend.Place.{Place}
use Rattle.farm_types.specs.declared.depend.Shape.{Shape}
use Rattle.farm_types.specs.declared.job.JobSpec.{JobSpec}
use Rattle.farm_types.specs.declared.refusal.Refusal.{Refusal}
use Rattle.farm_types.specs.declared.refusal.Refusal.TheVariants.{Finished, SelfDepend, Started, Unknown}
use Rattle.farm_types.specs.declared.rows.JobRow.{JobRow}
use Rattle.farm_types.specs.declared.slot_row.Frame.{Frame}
use Rattle.farm_types.specs.declared.slot_row.SlotRow.{SlotRow}
use Rattle.farm_types.specs.declared.states.FrameState.{FrameState}
use Rattle.farm_types.specs.declared.states.FrameState.TheVariants as frame_state
use Rattle.farm_types.specs.Booking.{is_waiting}
use Rattle.farm_types.specs.DependActs.{end_of, end_refusal, frame_name_at, is_running, job_missing, new_groups, number_of, or_else, pending_named, place_refusal, runs_already, runs_at, waits_for_itself}
use Rattle.farm_types.specs.Depends.{shape_of}
use Rattle.farm_types.specs.Farm.{Farm, for_some}
use Rattle.farm_types.specs.Jobs.{is_finished_named, is_pending_named, job_row, without_finished}
use Rattle.farm_types.specs.Rising.{job_key}
use Rattle.farm_types.proofs.Lists.{for_some_true}
use Rattle.farm_law.proofs.KeptJobsLists.{find_none, found_later, found_more, rising_below}
use Rattle.depend_law.proofs.Placed.{HoldsOf}
use Rattle.depend_book.specs.declared.new_depend.NewDepend.{NewDepend}
use Rattle.depend_graph.specs.Graph.{IsGroup}
use Rattle.farm_types.specs.declared.fault.FarmFault.{FarmFault}
use Rattle.farm_types.specs.declared.fault.FarmFault.TheVariants.{Refused, NoMemory}
use Rattle.farm_depends.specs.declared.new_depends.room.Counts.{Counts}
use Rattle.farm_places.specs.declared.ends.FoundEnd.{FoundEnd}
use Rattle.farm_depends.specs.declared.new_depends.own_job.OwnJob.{OwnJob}
use Rattle.farm_depends.specs.Coming.{Comes, counts_full, groups_refusal_with, refusal_with, self_refusal, started_refusal, waits_at}
use Rattle.farm_places.specs.Ends.{FindsEnd, IsEnd, ShowsPart, shape_refusal}
use Rattle.farm_depends.specs.Placed.{CanPlace, EndsIn, GroupsBetween, IsOwn, name_in, own_groups, own_refusal, placed}
use Rattle.farm_depends.proofs.ComingLemmas.ComingGroups.{found_groups, new_are_groups, refusal_is, waiter_among, waiter_holds}
use Rattle.farm_depends.proofs.ComingLemmas.LeftNames.{finished_left, pending_left}
use Rattle.farm_depends.proofs.ComingLemmas.OwnNames.{name_is}
use Rattle.farm_depends.proofs.ComingLemmas.PlacedFarm.{IsPlaced, job_accepted, other_shape, own_waits, placed_is}
use Rattle.depend_book.proofs.Zips.{or_none}
use Rattle.farm_places.proofs.ShownParts.{IsPending, all_shown, part_is, pending_is, refusal_shown}

-- equal bytes are one name
pub same_name : (a b : List ℕ) → bytes_eq a b ≡ true → a ≡ b
same_name a b same = (bytes_eq-Decides a b).0 same

-- ---- lists

none_step : (b : Bool) (test : JobRow → Bool) (j : JobRow) (js : List JobRow) → test j ≡ b → (list_any test js ≡ false → find test js ≡ None) → (b || list_any test js) ≡ false → find test (j ∷ js) ≡ None
none_step true test j js is later none = absurd (false≢true (sym none))
none_step false test j js is later none = ap (λ (b : Bool). cond b (Some j) (find test js)) is ∙ later none

any_none : (test : JobRow → Bool) (js : List JobRow) → list_any test js ≡ false → find test js ≡ None
any_none test [] none = refl
any_none test (j ∷ js) none = none_step (test j) test j js refl (any_none test js) none

-- ---- groups

-- a frame that waits for itself is one of those who wait
pub record WaitsSomewhere (groups : List Group) (slot : ℕ) : Type 0 where
  pub place : ℕ
  pub group : Group
  pub at : slice_get groups place ≡ Some group
  pub index : ℕ
  pub waits : slice_get group.waiters index ≡ Some slot

abbrev own_waiter : Group → Option ℕ
own_waiter g = find (λ w. list_any (λ t. eqb t w) g.targets) g.waiters

self_step : (o : Option ℕ) (g : Group) (gs : List Group) (slot : ℕ) → own_waiter g ≡ o → (waits_for_itself gs ≡ Some slot → WaitsSomewhere gs slot) → or_else o (waits_for_itself gs) ≡ Some slot → WaitsSomewhere (g ∷ gs) slot
self_step None g gs slot is later found =
    let r = later found in
    record { place = suc r.place; group = r.group; at = r.at; index = r.index; waits = r.waits }
self_step (Some w) g gs slot is later found =
    record {
      place = 0;
      group = g;
      at = refl;
      index = position_or_len (λ k. list_any (λ t. eqb t k) g.targets) g.waiters;
      waits = sym (find_at (λ k. list_any (λ t. eqb t k) g.targets) g.waiters) ∙ (is ∙ found);
    }

self_waits : (groups : List Group) (slot : ℕ) → waits_for_itself groups ≡ Some slot → WaitsSomewhere groups slot
self_waits [] slot found = absurd (none-some slot found)
self_waits (g ∷ gs) slot found = self_step (own_waiter g) g gs slot refl (self_waits gs slot) found

-- none runs where each one waits to be booked
idle_state : (state : FrameState) → is_waiting state ≡ true → is_running state ≡ false
idle_state frame_state.Waiting waits = refl
idle_state frame_state.Setup waits = refl
idle_state frame_state.Running waits = absurd (false≢true waits)
idle_state frame_state.Succeeded waits = refl
idle_state frame_state.Depend waits = refl
idle_state frame_state.Dead waits = refl
idle_state frame_state.Eaten waits = refl

idle_at : (slots : List SlotRow) (slot : ℕ) → waits_at slots slot ≡ true → runs_at slots slot ≡ false
idle_at slots slot waits =
    let s = for_some_true (slice_get slots slot) (λ (r : SlotRow). for_some r.frame (λ x. is_waiting x.state)) waits in
    let x = for_some_true s.0.frame (λ (y : Frame). is_waiting y.state) s.2 in
    ap (λ (o : Option SlotRow). for_some o (λ (r : SlotRow). for_some r.frame (λ y. is_running y.state))) s.1
    ∙ (ap (λ (o : Option Frame). for_some o (λ y. is_running y.state)) x.1 ∙ idle_state x.0.state x.2)

none_run : (slots : List SlotRow) (groups : List Group) → ((n : ℕ) (g : Group) → slice_get groups n ≡ Some g → (k slot : ℕ) → slice_get g.waiters k ≡ Some slot → waits_at slots slot ≡ true) → runs_already slots groups ≡ None
none_run slots [] wait = refl
none_run slots (g ∷ gs) wait =
    ap (λ (o : Option ℕ). or_else o (runs_already slots gs)) (find_none (runs_at slots) g.waiters (λ k slot at. idle_at slots slot (wait 0 g refl k slot at)))
    ∙ none_run slots gs (λ n h at. wait (suc n) h at)

-- ---- ends

module _ (f : Farm) (spec : JobSpec) (can : CanPlace f spec) where
  abbrev farm : Farm
  farm = placed f spec

  is : IsPlaced f spec farm
  is = placed_is f spec can.accepted

  abbrev olds : List JobRow
  olds = without_finished spec.name f.jobs

  -- the job itself is the pending one of its name
  own_named : (name : List ℕ) → name ≡ spec.name → pending_named farm name ≡ Some (job_row f.next_job is.show spec)
  own_named name same =
      let row = job_row f.next_job is.show spec in
      let test = is_pending_named name in
      let new : find test olds ≡ None = pending_left name spec.name f.jobs ∙ subst (λ (n : List ℕ). find (is_pending_named n) f.jobs ≡ None) (sym same) (any_none (is_pending_named spec.name) f.jobs (job_accepted f spec can.accepted).name_new) in
      let named : bytes_eq spec.name name ≡ true = ap (bytes_eq spec.name) same ∙ nat_list_eq_equiv.refl spec.name in
      ap (find test) is.jobs ∙ (found_later test olds (row ∷ []) new ∙ ap (λ (b : Bool). cond b (Some row) None) named)

  own_pending : (q : Place) → q.job ≡ spec.name → IsPending farm q f.next_job
  own_pending q same = pending_is farm q f.next_job (sym (ap (option_map (λ (j : JobRow). j.job)) (own_named q.job same)))

  pub own_number_of : (q : Place) → q.job ≡ spec.name → (end_of farm q).job ≡ f.next_job
  own_number_of q same = let pending = own_pending q same in pending.number

  -- another job is the pending one of its name as it was
  other_named : (name : List ℕ) → bytes_eq name spec.name ≡ false → pending_named farm name ≡ pending_named f name
  other_named name apart = ap (find (is_pending_named name)) is.jobs ∙ (by (find (is_pending_named name) olds) refl ∙ pending_left name spec.name f.jobs)
    where
      by : (o : Option JobRow) → find (is_pending_named name) olds ≡ o → find (is_pending_named name) (olds ++ job_row f.next_job is.show spec ∷ []) ≡ find (is_pending_named name) olds
      by None none =
          found_later (is_pending_named name) olds (job_row f.next_job is.show spec ∷ []) none
          ∙ (ap (λ (b : Bool). cond b (Some (job_row f.next_job is.show spec)) None) (nat_list_eq_equiv.symm spec.name name ∙ apart) ∙ sym none)
      by (Some j) found = found_more (is_pending_named name) olds (job_row f.next_job is.show spec ∷ []) j found ∙ sym found

  earlier : (name : List ℕ) (j : JobRow) → pending_named f name ≡ Some j → shape_of farm j.job ≡ shape_of f j.job
  earlier name j found =
      let at = sym (find_at (is_pending_named name) f.jobs) ∙ found in
      let before = rising_below job_key 1 f.jobs f.next_job (position_or_len (is_pending_named name) f.jobs) j can.rows.jobs.jobs_rise at in
      other_shape f spec farm is j.job (ne_eqb f.next_job j.job (λ e. absurd (omega (arith, before, e))))

  -- and so is a finished one
  missing_same : (name : List ℕ) → bytes_eq name spec.name ≡ false → job_missing farm name ≡ job_missing f name
  missing_same name apart =
      ap (λ (b : Bool). cond b (Finished name) (Unknown name))
      (ap (list_any (is_finished_named name)) is.jobs ∙ (list_any-append (is_finished_named name) olds (job_row f.next_job is.show spec ∷ [])
      ∙ (or_none (list_any (is_finished_named name) olds) ∙ finished_left name spec.name apart f.jobs)))

  refusal_by : (q : Place) → bytes_eq q.job spec.name ≡ false → (o : Option JobRow) → pending_named f q.job ≡ o → end_refusal farm q o ≡ end_refusal f q o
  refusal_by q apart None none = ap (λ (why : Refusal). Some why) (missing_same q.job apart)
  refusal_by q apart (Some j) found =
      part_is farm j.job q.layer q.frame ∙ (ap (λ (s : Shape). shape_refusal s q.layer q.frame) (earlier q.job j found) ∙ sym (part_is f j.job q.layer q.frame))

  other_refusal : (q : Place) → bytes_eq q.job spec.name ≡ false → place_refusal farm q ≡ place_refusal f q
  other_refusal q apart = ap (end_refusal farm q) (other_named q.job apart) ∙ refusal_by q apart (pending_named f q.job) refl

  other_end : (q : Place) → bytes_eq q.job spec.name ≡ false → end_of farm q ≡ end_of f q
  other_end q apart = ap (λ (o : Option JobRow). record { job = number_of o; layer = q.layer; frame = q.frame }) (other_named q.job apart)

  shape_by : (q : Place) (o : Option JobRow) → pending_named f q.job ≡ o → end_refusal f q o ≡ None → shape_of farm (number_of o) ≡ shape_of f (number_of o)
  shape_by q None found none = absurd (none-some (job_missing f q.job) (sym none))
  shape_by q (Some j) found none = earlier q.job j found

  -- an end in another job is found as it was
  pub other_finds : (q : Place) → bytes_eq q.job spec.name ≡ false → (r : Result FoundEnd FarmFault) → FindsEnd f q r → FindsEnd farm q r
  other_finds q apart (Ok e) found =
      record {
        accepted = other_refusal q apart ∙ found.accepted;
        end_is = found.end_is ∙ sym (other_end q apart);
        shows = subst (λ (s : Shape). ShowsPart s e.shape q.layer) (sym (ap (λ (d : DependEnd). shape_of farm d.job) (other_end q apart) ∙ shape_by q (pending_named f q.job) refl found.accepted)) found.shows;
      }
  other_finds q apart (Err (Refused why)) found = other_refusal q apart ∙ found
  other_finds q apart (Err NoMemory) found = tt

  module _ (own : OwnJob) (mine : IsOwn f spec own) where
    shows : (q : Place) → ShowsPart (shape_of farm f.next_job) own.shape q.layer
    shows q = all_shown (shape_of farm f.next_job) own.shape q.layer mine.shape_is

    -- an end in the job itself
    pub own_is_end : (q : Place) → q.job ≡ spec.name → (e : DependEnd) → EndsIn own q (Ok e) → IsEnd farm q (record { end = e; shape = own.shape })
    own_is_end q same e ends =
        let pending = own_pending q same in
        record {
          accepted = refusal_shown farm q f.next_job own.shape pending (shows q) ∙ ends.0;
          end_is = ends.1 ∙ ap (λ (n : ℕ). record { job = n; layer = q.layer; frame = q.frame }) (mine.number ∙ sym pending.number);
          shows = subst (λ (n : ℕ). ShowsPart (shape_of farm n) own.shape q.layer) (sym pending.number) (shows q);
        }

    pub own_fault : (q : Place) → q.job ≡ spec.name → (fault : FarmFault) → EndsIn own q (Err fault) → FindsEnd farm q (Err fault)
    own_fault q same (Refused why) refused = refusal_shown farm q f.next_job own.shape (own_pending q same) (shows q) ∙ refused
    own_fault q same NoMemory refused = tt

    -- a depend in which the job waits, of which both ends are there
    module _ (d : DependSpec) (same : d.waiter.job ≡ spec.name) (waiter : DependEnd) (target : FoundEnd) (w : IsEnd farm d.waiter (record { end = waiter; shape = own.shape })) (t : IsEnd farm d.target target) where
      pub groups_are : own_groups own target.shape d ≡ new_groups farm d
      groups_are = found_groups farm d (record { end = waiter; shape = own.shape }) target w t

      pub each_group : All IsGroup (own_groups own target.shape d)
      each_group = subst (λ (gs : List Group). All IsGroup gs) (sym groups_are) (new_are_groups farm can.rows_then d w.accepted t.accepted)

      own_number : (end_of farm d.waiter).job ≡ f.next_job
      own_number = let pending = own_pending d.waiter same in pending.number

      name_at : (slot : ℕ) → WaitsSomewhere (new_groups farm d) slot → name_in own.shape.layers slot ≡ frame_name_at farm slot
      name_at slot r =
          let among = waiter_among farm can.rows_then d w.accepted t.accepted r.place r.group r.at in
          let there = among.members r.index slot r.waits in
          let full = shape_of farm (end_of farm d.waiter).job in
          let shape : own.shape ≡ full = mine.shape_is ∙ ap (shape_of farm) (sym own_number) in
          ap (λ (s : Shape). name_in s.layers slot) shape ∙ name_is farm can.rows_then (end_of farm d.waiter).job slot there.0 there.1

      self_by : (o : Option ℕ) → waits_for_itself (new_groups farm d) ≡ o → option_map (λ (slot : ℕ). SelfDepend (name_in own.shape.layers slot)) o ≡ option_map (λ (slot : ℕ). SelfDepend (frame_name_at farm slot)) o
      self_by None none = refl
      self_by (Some slot) found = ap (λ (name : List ℕ). Some (SelfDepend name)) (name_at slot (self_waits (new_groups farm d) slot found))

      none_started : started_refusal farm (new_groups farm d) ≡ None
      none_started =
          ap (option_map (λ (slot : ℕ). Started (frame_name_at farm slot)))
          (none_run farm.slots (new_groups farm d)
          (λ n g at k slot there. own_waits f spec farm is (length f.shows) can.rows.jobs slot
          (subst (λ (job : ℕ). HoldsOf farm.slots job slot) own_number (waiter_holds farm can.rows_then d w.accepted t.accepted n g at k slot there))))

      -- what is refused of the groups
      pub refusal_same : (c : Counts) → own_refusal own.shape.layers c (own_groups own target.shape d) ≡ groups_refusal_with farm c (own_groups own target.shape d)
      refusal_same c =
          subst (λ (gs : List Group). own_refusal own.shape.layers c gs ≡ groups_refusal_with farm c gs) (sym groups_are)
          (ap (λ (o : Option Refusal). or_else o (counts_full c (length (new_groups farm d)))) (self_by (waits_for_itself (new_groups farm d)) refl)
          ∙ ap (λ (o : Option Refusal). or_else (self_refusal farm (new_groups farm d)) (or_else o (counts_full c (length (new_groups farm d))))) (sym none_started))

      all_same : (c : Counts) → own_refusal own.shape.layers c (own_groups own target.shape d) ≡ refusal_with farm c d
      all_same c = refusal_same c ∙ sym (refusal_is farm c d w.accepted t.accepted (own_groups own target.shape d) groups_are)

      pub between_fault : (c : Counts) (fault : FarmFault) → GroupsBetween own target.shape c d (Err fault) → Comes farm c d (Err fault)
      between_fault c (Refused why) refused = sym (all_same c) ∙ refused
      between_fault c NoMemory refused = tt

      pub between_comes : (c : Counts) (groups : List Group) → GroupsBetween own target.shape c d (Ok groups) → (n : NewDepend) → n ≡ record { kind = d.kind; any = d.any; waiter = waiter; target = target.end; groups = groups } → Comes farm c d (Ok n)
      between_comes c groups between n made = (
        sym (all_same c) ∙ (ap (own_refusal own.shape.layers c) (sym between.1) ∙ between.0),
        made ∙ (λ i. record { kind = d.kind; any = d.any; waiter = w.end_is i; target = t.end_is i; groups = (between.1 ∙ groups_are) i }),
      )
