-- What follows a depend that is asked for.
use Rattle.std.proofs.Common.{◌≡◌, ℕ, ◌≤◌, ◌||◌, Bool, true, not, List, [], ◌∷◌, length, filter, get_or, Option, Some, None, Err, All, refl, sym, ap, subst, ◌∙◌, inl, inr, arith}
use Rattle.std.specs.Prelude.{IsSomeAnd}
use Rattle.std.specs.List.{IsDistinct, slice_get}
use Rattle.std.proofs.lemmas.Bool.{false≢true}
use Rattle.std.proofs.lemmas.List.Elements.{filter_passes}
use Rattle.farm_types.specs.declared.attempt.ProcRow.{ProcRow}
use Rattle.farm_types.specs.declared.depend.DependSpec.{DependSpec}
use Rattle.farm_types.specs.declared.depend.Group.{Group}
use Rattle.farm_types.specs.declared.entry.Act.TheVariants as act
use Rattle.farm_types.specs.declared.limits.TheConstants.{MOST_FRAMES}
use Rattle.farm_types.specs.declared.slot_row.Frame.{Frame}
use Rattle.farm_types.specs.declared.slot_row.SlotRow.{SlotRow}
use Rattle.farm_types.specs.declared.states.FrameState.{FrameState}
use Rattle.farm_types.specs.declared.states.FrameState.TheVariants as frame_state
use Rattle.farm_types.specs.Booking.{is_waiting}
use Rattle.farm_types.specs.DependActs.{depend_refusal, new_groups, or_else, place_refusal}
use Rattle.farm_types.specs.Depends.{are_done, groups_of, is_done}
use Rattle.farm_types.specs.Settle.{is_blocked}
use Rattle.farm_types.specs.Farm.{Farm, for_some}
use Rattle.farm_types.specs.Formed.{IsFormedDepend}
use Rattle.farm_types.specs.Run.{HasItsAttempt, IsAttemptOf, IsSound}
use Rattle.farm_types.proofs.Lists.{for_some_true}
use Rattle.depend_book.specs.Book.{DependLists, IsBook, joined}
use Rattle.depend_book.specs.declared.new_depend.NewDepend.{NewDepend}
use Rattle.depend_graph.specs.Graph as graph
use Rattle.depend_graph.specs.Graph.{IsGroup, is_flagged, no_marks}
use Rattle.farm_types.specs.declared.fault.FarmFault.{FarmFault}
use Rattle.farm_types.specs.declared.fault.FarmFault.TheVariants.{Refused, NoMemory}
use Rattle.farm_depends.specs.declared.new_depends.room.Counts.{Counts}
use Rattle.farm_depends.specs.declared.follow.Follow.{Follow}
use Rattle.farm_depends.specs.Coming.{Comes, counts_full, counts_in, follow_added, follow_new, groups_refusal_with, refusal_with, self_refusal, started_refusal, unmet_by, waiters_of, waits_at}
use Rattle.depend_book.specs.Fits.{IsBeside}
use Rattle.farm_depends.specs.Follow.{FollowFits, Follows, IsMovable, IsRoomy, PreparesFollow, coming, is_moved}
use Rattle.farm_depends.proofs.Agree.{HasRoom, both_none, room_by, unmet_agree, waiters_some}
use Rattle.farm_depends.proofs.ComingLemmas.ComingGroups.{new_are_groups, new_waiters_few}
use Rattle.farm_depends.proofs.CompletionLemmas.Reopened.{none_reopened}
use Rattle.farm_depends.proofs.ComingLemmas.ToCome.{added_count, added_farm, left_is}

-- ---- frames that wait

no_proc : (place version : ℕ) (state : FrameState) (proc : Option ProcRow) → is_waiting state ≡ true → IsAttemptOf place version state proc → proc ≡ None
no_proc place version state None waits its = refl
no_proc place version frame_state.Waiting (Some p) waits its = absurd its
no_proc place version frame_state.Setup (Some p) waits its = absurd its
no_proc place version frame_state.Running (Some p) waits its = absurd (false≢true waits)
no_proc place version frame_state.Succeeded (Some p) waits its = absurd its
no_proc place version frame_state.Depend (Some p) waits its = absurd its
no_proc place version frame_state.Dead (Some p) waits its = absurd its
no_proc place version frame_state.Eaten (Some p) waits its = absurd its

moved_by : (state : FrameState) → is_waiting state ≡ true → (is_waiting state || is_blocked state) ≡ true
moved_by state waits = ap (λ (b : Bool). b || is_blocked state) waits

-- a frame that waits has no attempt
pub waiting_movable : (f : Farm) → IsSound f → (slot : ℕ) → waits_at f.slots slot ≡ true → IsMovable f.slots slot
waiting_movable f sound slot waits =
    let s = for_some_true (slice_get f.slots slot) (λ (r : SlotRow). for_some r.frame (λ x. is_waiting x.state)) waits in
    let x = for_some_true s.0.frame (λ (y : Frame). is_waiting y.state) s.2 in
    let its = subst (λ (o : Option Frame). HasItsAttempt slot s.0.version o s.0.proc) x.1 (sound.attempts slot s.0 s.1) in
    let moved : is_moved s.0 ≡ true = ap (λ (o : Option Frame). for_some o (λ y. is_waiting y.state || is_blocked y.state)) x.1 ∙ moved_by x.0.state x.2 in
    subst (λ (o : Option SlotRow). IsSomeAnd o (λ r. (is_moved r ≡ true) × (r.proc ≡ None))) (sym s.1) (moved, no_proc slot s.0.version x.0.state s.0.proc x.2 its)

pub waiting_are_movable : (f : Farm) → IsSound f → (ns : List ℕ) → All (IsMovable f.slots) (filter (waits_at f.slots) ns)
waiting_are_movable f sound ns k d within = waiting_movable f sound (get_or (filter (waits_at f.slots) ns) k d) (filter_passes (waits_at f.slots) ns k d within)

-- ---- room

-- a depend that isn't refused
pub record IsAccepted (f : Farm) (spec : DependSpec) : Type 0 where
  pub waiter : place_refusal f spec.waiter ≡ None
  pub target : place_refusal f spec.target ≡ None
  pub room : HasRoom (counts_in f) (length (new_groups f spec))

pub accepted_by : (f : Farm) (spec : DependSpec) → depend_refusal f spec ≡ None → IsAccepted f spec
unfolding depend_refusal
accepted_by f spec none =
    let groups = new_groups f spec in
    let first = both_none (place_refusal f spec.waiter) (or_else (place_refusal f spec.target) (groups_refusal_with f (counts_in f) groups)) none in
    let second = both_none (place_refusal f spec.target) (groups_refusal_with f (counts_in f) groups) first.1 in
    let third = both_none (self_refusal f groups) (or_else (started_refusal f groups) (counts_full (counts_in f) (length groups))) second.1 in
    let fourth = both_none (started_refusal f groups) (counts_full (counts_in f) (length groups)) third.1 in
    record { waiter = first.0; target = second.0; room = room_by (counts_in f) (length groups) fourth.1 }

pub roomy_by : (f : Farm) (spec : DependSpec) → IsAccepted f spec → All IsGroup (new_groups f spec) → IsRoomy f (coming f spec)
roomy_by f spec accepted each =
    record { number_left = accepted.room.number; row_left = accepted.room.depend; groups_left = accepted.room.groups_fit; groups_are = refl; each = each }

-- ---- the depend

module _ (f : Farm) (b : DependLists) (book : IsBook b) (whole : IsBeside f b) (spec : DependSpec) (formed : IsFormedDepend spec) where
  abbrev farm : Farm
  farm = joined f b

  abbrev counts : Counts
  counts = record { depends = length b.rows; groups = graph.groups_left b.graph.depends; next = b.next }

  refusal_same : refusal_with f counts spec ≡ depend_refusal farm spec
  unfolding depend_refusal groups_of
  refusal_same = ap (λ (n : ℕ). refusal_with f (record { depends = length b.rows; groups = n; next = b.next }) spec) (sym (left_is f b book whole.fits))

  pub depend_refused : (fault : FarmFault) → Comes f counts spec (Err fault) → PreparesFollow farm farm (act.AddDepend spec) (Err fault)
  depend_refused (Refused why) comes = sym refusal_same ∙ comes
  depend_refused NoMemory comes = tt

  unmet_same : (gs : List Group) → unmet_by b.graph.done gs ≡ waiters_of (filter (λ g. not (are_done (is_done f.slots) g)) gs)
  unmet_same gs = ap waiters_of (unmet_agree (is_flagged b.graph.done) (is_done f.slots) whole.fits.done gs)

  follow_is : follow_new f.slots b.graph.done (coming f spec) ≡ follow_added farm spec
  unfolding groups_of
  follow_is =
      ap
      (λ (ns : List ℕ). record { depends = coming f spec ∷ []; spares = []; dropped = None; done = []; marks = no_marks; reopened = None; opened = []; blocked = filter (waits_at f.slots) ns; raises = true; count = length ns })
      (unmet_same (new_groups f spec))

  accepted : refusal_with f counts spec ≡ None → IsAccepted farm spec
  accepted none = accepted_by farm spec (sym refusal_same ∙ none)

  -- who waits unmet by it are no more than a job's frames
  pub unmet_few : refusal_with f counts spec ≡ None → (n : NewDepend) → n ≡ coming f spec → length (unmet_by b.graph.done n.groups) ≤ MOST_FRAMES
  unfolding groups_of
  unmet_few none n is =
      let ok = accepted none in
      let groups = ap (λ (m : NewDepend). length (unmet_by b.graph.done m.groups)) is in
      omega (arith, groups, waiters_some (λ g. not (are_done (is_flagged b.graph.done) g)) (new_groups f spec), new_waiters_few farm whole.kept.rows spec ok.waiter ok.target)

  fits : refusal_with f counts spec ≡ None → FollowFits farm farm (follow_added farm spec)
  unfolding IsDistinct
  fits none =
      let ok = accepted none in
      record {
        groups_stay = λ i d at unmet. refl;
        one_kind = inr (inl (refl, refl));
        room = (roomy_by farm spec ok (new_are_groups farm whole.kept.rows spec ok.waiter ok.target), tt);
        drop_there = tt;
        done_differ = tt;
        undone = λ k d within. absurd (omega arith);
        done_are = λ slot. none_reopened (is_done f.slots slot);
        opened_movable = λ k d within. absurd (omega arith);
        blocked_movable = waiting_are_movable farm whole.kept.rows.sound _;
      }

  pub depend_follows : (n : NewDepend) → refusal_with f counts spec ≡ None → n ≡ coming f spec → (w : Follow) → w ≡ follow_new f.slots b.graph.done n → Follows farm farm (act.AddDepend spec) w
  depend_follows n none is w follows =
      let allowed : depend_refusal farm spec ≡ None = sym refusal_same ∙ none in
      let all : w ≡ follow_added farm spec = follows ∙ (ap (follow_new f.slots b.graph.done) is ∙ follow_is) in
      subst (Follows farm farm (act.AddDepend spec)) (sym all)
      (record {
        accepted = allowed;
        fits = fits none;
        unreserved = refl;
        farm = added_farm farm spec whole.kept formed allowed;
        counts = added_count farm spec whole.kept formed allowed;
      })
