-- Frames that operators kill and eat, and jobs that they pause: what depends keep along these acts.
use Rattle.std.proofs.Common.{◌≡◌, ℕ, Bool, true, false, cond, ◌&&◌, ◌||◌, List, map, Option, Some, None, refl, sym, ap, subst, ◌∙◌, inl, option_map, option_and_then}
use Rattle.std.specs.List.{AllZip, slice_get}
use Rattle.std.proofs.lemmas.Bool.{false≢true}
use Rattle.std.proofs.lemmas.Option.{none-some}
use Rattle.farm_types.specs.declared.depend.DependRow.{DependRow}
use Rattle.farm_types.specs.declared.entry.FramePlace.{FramePlace}
use Rattle.farm_types.specs.declared.refusal.Refusal.{Refusal}
use Rattle.farm_types.specs.declared.rows.JobRow.{JobRow}
use Rattle.farm_types.specs.declared.slot_row.Frame.{Frame}
use Rattle.farm_types.specs.declared.slot_row.SlotRow.{SlotRow}
use Rattle.farm_types.specs.declared.states.FrameState.{FrameState}
use Rattle.farm_types.specs.declared.states.FrameState.TheVariants.{Waiting, Setup, Running, Succeeded, Depend, Dead, Eaten}
use Rattle.farm_types.specs.DependActs.{place_refusal}
use Rattle.farm_types.specs.Depends.{is_done_state}
use Rattle.farm_types.specs.Farm.{Farm, changed_at, changed_by, layers_of}
use Rattle.farm_types.specs.Kept.{KeepsDepends, has_part, is_kept_depend}
use Rattle.farm_types.specs.Operators.{frame_act_refusal, frame_state_refusal, is_left_of, killed_row, may_kill, place_of, slot_named, slot_row_named, state_refusal, stopped_row, with_frame, with_killed, with_paused, with_row_at}
use Rattle.farm_types.specs.Settle.{is_blocked}
use Rattle.farm_types.proofs.Lists.{for_some_true}
use Rattle.farm_types.proofs.Passes.{cond_each, for_some-there}
use Rattle.farm_law.proofs.KeptJobsZip.{zip_changed_at, zip_map, zip_was}
use Rattle.farm_law.proofs.KeptPaused.{still_pending}
use Rattle.farm_law.proofs.KeptRuns.{neither}
use Rattle.depend_law.specs.Unsettled.{Unsettled, WaitingOpen}
use Rattle.depend_law.proofs.Carries.{Carries, CarriesAll, all_same, all_turns, carries_turns, kept_by, unsettled_by, waiting_by}
use Rattle.depend_law.proofs.KeptTurns.{same_carries}
use Rattle.depend_law.proofs.Settled.{in_other_state}
use Rattle.depend_law.proofs.Shapes.{SamePlace, changed_frames, frames_same, place_same, state_stays}
use Rattle.depend_law.proofs.Stable.{same_groups}
use Rattle.depend_law.proofs.Turns.{Turns, is_active, on_frame, on_slot, turns_changed, turns_same}

-- ---- a job that is paused

-- a depend has its ends
paused_ends : (f : Farm) (paused : Bool) (j : JobRow) (d : DependRow) → is_kept_depend (with_paused f paused (Some j)) d ≡ is_kept_depend f d
paused_ends f paused j d =
    ap (λ (pending : ℕ → Bool). (pending d.waiter.job && has_part (layers_of f.layers d.waiter.job) d.waiter.layer d.waiter.frame)
    && (d.met_all || (pending d.target.job && has_part (layers_of f.layers d.target.job) d.target.layer d.target.frame)))
    (λ i n. still_pending j.job paused f.jobs n i)

pub pause_carries : (f : Farm) (paused : Bool) (o : Option JobRow) → CarriesAll f (with_paused f paused o)
pause_carries f paused None = all_same f f refl refl refl refl refl refl
pause_carries f paused (Some j) =
    record {
      carries =
          record {
            same = same_groups f (with_paused f paused (Some j)) refl refl refl (frames_same f.slots);
            next = refl;
            ends = λ n d at there. paused_ends f paused j d ∙ there;
            active = λ slot h. inl h;
          };
      done = λ slot. refl;
      blocked = λ slot h. h;
    }

pub pause_keeps : (f : Farm) (paused : Bool) (o : Option JobRow) → KeepsDepends f → KeepsDepends (with_paused f paused o)
pause_keeps f paused o k = kept_by f (with_paused f paused o) k (pause_carries f paused o)

-- ---- slots whose frames are changed

-- what a test says of no changed frame but of those that it was said of
abbrev pub Passed : (FrameState → Bool) → SlotRow → SlotRow → Type 0
Passed test s t = on_frame test t.frame ≡ true → on_frame test s.frame ≡ true

-- what is so of the rows is so at each place
passed_at : (test : FrameState → Bool) (olds news : List SlotRow) → AllZip (Passed test) olds news → (slot : ℕ) → on_slot test (slice_get news slot) ≡ true → on_slot test (slice_get olds slot) ≡ true
passed_at test olds news zip slot h =
    let t = for_some_true (slice_get news slot) (λ (s : SlotRow). on_frame test s.frame) h in
    let was = zip_was (Passed test) olds news zip slot t.0 t.1 in
    for_some-there (slice_get olds slot) (λ (s : SlotRow). on_frame test s.frame) was.0 was.1 (was.2 t.2)

-- a row whose frame doesn't pass
none_passed : (test : FrameState → Bool) (s t : SlotRow) → on_frame test t.frame ≡ false → Passed test s t
none_passed test s t fails h = absurd (false≢true (sym fails ∙ h))

-- one slot changed so that its frame doesn't pass
pub changed_passed : (test : FrameState → Bool) (change : SlotRow → SlotRow) → ((s : SlotRow) → on_frame test (change s).frame ≡ false) → (slots : List SlotRow) (i slot : ℕ)
    → on_slot test (slice_get (changed_at slots i change) slot) ≡ true → on_slot test (slice_get slots slot) ≡ true
changed_passed test change fails slots i =
    passed_at test slots (changed_at slots i change) (zip_changed_at (Passed test) (λ s h. h) change slots i (λ s at. none_passed test s (change s) (fails s)))

-- the frame of a stopped row
stopped_stays : (state : FrameState) (s : SlotRow) → SamePlace s (stopped_row state s)
stopped_stays state s = state_stays state s.frame

eaten_idle : (s : SlotRow) → on_frame is_active (stopped_row Eaten s).frame ≡ false
eaten_idle s = in_other_state is_active Eaten refl s.frame

-- ---- frames that are eaten

-- the frame in one slot
pub eat_carries : (f : Farm) (o : Option ℕ) → Carries f (with_row_at f (stopped_row Eaten) o)
eat_carries f None = same_carries f
eat_carries f (Some slot) =
    carries_turns f (with_row_at f (stopped_row Eaten) (Some slot)) refl refl refl refl refl (changed_frames (stopped_row Eaten) (stopped_stays Eaten) f.slots slot)
    (changed_passed is_active (stopped_row Eaten) eaten_idle f.slots slot)

killed_stays : (job : ℕ) (s : SlotRow) → SamePlace s (killed_row job s)
killed_stays job s = cond_each (SamePlace s) (is_left_of job s) (stopped_row Eaten s) s (stopped_stays Eaten s) (place_same s)

killed_passed : (job : ℕ) (s : SlotRow) → Passed is_active s (killed_row job s)
killed_passed job s = cond_each (Passed is_active s) (is_left_of job s) (stopped_row Eaten s) s (none_passed is_active s (stopped_row Eaten s) (eaten_idle s)) (λ h. h)

-- those of a job
pub kill_carries : (f : Farm) (o : Option JobRow) → Carries f (with_killed f o)
kill_carries f None = same_carries f
kill_carries f (Some j) =
    carries_turns f (with_killed f (Some j)) refl refl refl refl refl (zip_map SamePlace (killed_row j.job) (killed_stays j.job) f.slots)
    (passed_at is_active f.slots (map (killed_row j.job) f.slots) (zip_map (Passed is_active) (killed_row j.job) (killed_passed j.job) f.slots))

-- before what follows of it
pub eat_leaves : (f : Farm) (p : FramePlace) → KeepsDepends f → Unsettled (with_frame f p (stopped_row Eaten)) × WaitingOpen (with_frame f p (stopped_row Eaten))
eat_leaves f p k =
    let g = with_frame f p (stopped_row Eaten) in
    let carries = eat_carries f (slot_named f p) in
    (unsettled_by f g k carries, waiting_by f g k carries)

pub kill_leaves : (f : Farm) (o : Option JobRow) → KeepsDepends f → Unsettled (with_killed f o) × WaitingOpen (with_killed f o)
kill_leaves f o k = (unsettled_by f (with_killed f o) k (kill_carries f o), waiting_by f (with_killed f o) k (kill_carries f o))

-- ---- frames that are killed

allowed_by : (may : Bool) (other : Refusal) → cond may None (Some other) ≡ None → may ≡ true
allowed_by true other accepted = refl
allowed_by false other accepted = absurd (none-some other (sym accepted))

killed_undone : (state : FrameState) → may_kill state ≡ true → false ≡ is_done_state state
killed_undone Waiting may = refl
killed_undone Setup may = refl
killed_undone Running may = refl
killed_undone Succeeded may = absurd (false≢true may)
killed_undone Depend may = refl
killed_undone Dead may = refl
killed_undone Eaten may = absurd (false≢true may)

dead_done : (frame : Option Frame) → frame_state_refusal may_kill frame ≡ None → on_frame is_done_state (option_map (λ (x : Frame). record x { state = Dead }) frame) ≡ on_frame is_done_state frame
dead_done None accepted = refl
dead_done (Some x) accepted = killed_undone x.state (allowed_by (may_kill x.state) _ accepted)

dead_turn : (s : SlotRow) → frame_state_refusal may_kill s.frame ≡ None → Turns (Some s) (Some (stopped_row Dead s))
dead_turn s accepted =
    record {
      done = dead_done s.frame accepted;
      blocked = none_passed is_blocked s (stopped_row Dead s) (in_other_state is_blocked Dead refl s.frame);
      active = none_passed is_active s (stopped_row Dead s) (in_other_state is_active Dead refl s.frame);
    }

-- a slot that is there, or none
dead_turns : (slots : List SlotRow) (i : ℕ) (o : Option SlotRow) → slice_get slots i ≡ o → state_refusal may_kill o ≡ None → (slot : ℕ) → Turns (slice_get slots slot) (slice_get (changed_at slots i (stopped_row Dead)) slot)
dead_turns slots i None at accepted slot =
    let same : changed_at slots i (stopped_row Dead) ≡ slots = ap (changed_by slots i (stopped_row Dead)) at in
    subst (λ (rows : List SlotRow). Turns (slice_get slots slot) (slice_get rows slot)) (sym same) (turns_same (slice_get slots slot))
dead_turns slots i (Some s) at accepted slot = turns_changed slots i (stopped_row Dead) s at (dead_turn s accepted) slot

dead_carries : (f : Farm) (o : Option ℕ) → state_refusal may_kill (option_and_then (slice_get f.slots) o) ≡ None → CarriesAll f (with_row_at f (stopped_row Dead) o)
dead_carries f None accepted = all_same f f refl refl refl refl refl refl
dead_carries f (Some slot) accepted =
    all_turns f (with_row_at f (stopped_row Dead) (Some slot)) refl refl refl refl refl (changed_frames (stopped_row Dead) (stopped_stays Dead) f.slots slot)
    (dead_turns f.slots slot (slice_get f.slots slot) refl accepted)

-- a frame that isn't done
pub kill_frame_carries : (f : Farm) (p : FramePlace) → frame_act_refusal may_kill f p ≡ None → CarriesAll f (with_frame f p (stopped_row Dead))
kill_frame_carries f p accepted = dead_carries f (slot_named f p) (neither (place_refusal f (place_of p)) (state_refusal may_kill (slot_row_named f p)) accepted).1

pub kill_keeps : (f : Farm) (p : FramePlace) → frame_act_refusal may_kill f p ≡ None → KeepsDepends f → KeepsDepends (with_frame f p (stopped_row Dead))
kill_keeps f p accepted k = kept_by f (with_frame f p (stopped_row Dead)) k (kill_frame_carries f p accepted)
