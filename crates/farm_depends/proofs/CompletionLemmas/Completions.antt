-- What acts that complete frames leave: depends stay with their groups, what is done stays done, and exactly what was blocked and isn't done now is blocked.
use Rattle.std.proofs.Common.{◌≡◌, ℕ, zero, suc, ◌&&◌, not, Bool, true, false, List, [], ◌∷◌, map, Option, None, Some, option_map, refl, sym, ap, ◌∙◌}
use Rattle.std.specs.List.{AllZip, slice_get}
use Rattle.std.proofs.lemmas.Bool.{and_parts, and_right, not-true}
use Rattle.farm_types.specs.declared.attempt.DoneItem.{DoneItem}
use Rattle.farm_types.specs.declared.entry.Act.{Act}
use Rattle.farm_types.specs.declared.entry.Act.TheVariants.{Heard, KillJob, EatFrame}
use Rattle.farm_types.specs.declared.entry.Entry.{Entry}
use Rattle.farm_types.specs.declared.entry.HeardAct.{HeardAct}
use Rattle.farm_types.specs.declared.rows.JobRow.{JobRow}
use Rattle.farm_types.specs.declared.slot_row.Frame.{Frame}
use Rattle.farm_types.specs.declared.slot_row.SlotRow.{SlotRow}
use Rattle.farm_types.specs.declared.states.FrameState.{FrameState}
use Rattle.farm_types.specs.declared.states.FrameState.TheVariants.{Waiting, Setup, Running, Succeeded, Depend, Dead, Eaten}
use Rattle.farm_types.specs.DependActs.{pending_named}
use Rattle.farm_types.specs.Depends.{is_done, is_done_state}
use Rattle.farm_types.specs.Farm.{Farm, changed_at, host_named}
use Rattle.farm_types.specs.Hosts.{heard_row}
use Rattle.farm_types.specs.Operators.{is_left_of, killed_row, slot_named, stopped_row, with_killed, with_row_at}
use Rattle.farm_types.specs.Run.{HasItsHosts, IsSound}
use Rattle.farm_types.specs.Settle.{is_blocked}
use Rattle.farm_types.specs.Step.{acted, after_act, after_heard, at_moment, end_all, end_attempt, expire, is_live, moment_of}
use Rattle.farm_types.proofs.Passes.{cond_each}
use Rattle.farm_law.proofs.Ended.{ended}
use Rattle.farm_law.proofs.KeptJobsZip.{zip_changed_at, zip_map}
use Rattle.depend_law.proofs.Shapes.{frames_same}
use Rattle.depend_law.proofs.Stable.{SameGroups, same_groups, same_groups_then}
use Rattle.depend_law.proofs.Stops.{eat_carries, kill_carries}
use Rattle.depend_law.proofs.Turns.{on_frame, on_slot}
use Rattle.farm_depends.specs.Completing.{IsCompleting, is_blocked_in}
use Rattle.farm_depends.proofs.CompletionLemmas.Rests.{Rests, blocked_same, done_stays, heard_carried, heard_rests}

-- what is done stays done, and a frame is blocked exactly where it was and isn't done now
pub record Completed (o n : Option SlotRow) : Type 0 where
  pub done : on_slot is_done_state o ≡ true → on_slot is_done_state n ≡ true
  pub blocked : on_slot is_blocked n ≡ (on_slot is_blocked o && not (on_slot is_done_state n))

-- no job comes, the groups of what isn't satisfied stay, and so it is of each slot
pub record CompletesFrames (f g : Farm) : Type 0 where
  pub next : g.next_job ≡ f.next_job
  pub same : SameGroups f g
  pub slots : (slot : ℕ) → Completed (slice_get f.slots slot) (slice_get g.slots slot)

-- ---- slots

state_undone : (state : FrameState) → is_blocked state ≡ (is_blocked state && not (is_done_state state))
state_undone Waiting = refl
state_undone Setup = refl
state_undone Running = refl
state_undone Succeeded = refl
state_undone Depend = refl
state_undone Dead = refl
state_undone Eaten = refl

frame_undone : (frame : Option Frame) → on_frame is_blocked frame ≡ (on_frame is_blocked frame && not (on_frame is_done_state frame))
frame_undone None = refl
frame_undone (Some x) = state_undone x.state

-- a blocked frame isn't done
slot_undone : (o : Option SlotRow) → on_slot is_blocked o ≡ (on_slot is_blocked o && not (on_slot is_done_state o))
slot_undone None = refl
slot_undone (Some s) = frame_undone s.frame

-- of the slots of a farm
pub blocked_undone : (slots : List SlotRow) (slot : ℕ) → is_blocked_in slots slot ≡ true → is_done slots slot ≡ false
blocked_undone slots slot h =
    let either = sym (slot_undone (slice_get slots slot)) ∙ h in
    not-true (is_done slots slot) (and_parts (is_blocked_in slots slot) (not (is_done slots slot)) either).1

completed_same : (o : Option SlotRow) → Completed o o
completed_same o = record { done = λ h. h; blocked = slot_undone o }

completed_rests : (o n : Option SlotRow) → Rests o n → Completed o n
completed_rests o n r = record { done = done_stays o n r; blocked = slot_undone n ∙ ap (λ (b : Bool). b && not (on_slot is_done_state n)) (blocked_same o n r) }

-- ---- frames that are eaten

eaten_done : (frame : Option Frame) → on_frame is_done_state frame ≡ true → on_frame is_done_state (option_map (λ (x : Frame). record x { state = Eaten }) frame) ≡ true
eaten_done None h = h
eaten_done (Some x) h = refl

eaten_free : (frame : Option Frame)
    → on_frame is_blocked (option_map (λ (x : Frame). record x { state = Eaten }) frame) ≡ (on_frame is_blocked frame && not (on_frame is_done_state (option_map (λ (x : Frame). record x { state = Eaten }) frame)))
eaten_free None = refl
eaten_free (Some x) = sym (and_right (is_blocked x.state) false refl)

-- so it is of each row
abbrev Each : SlotRow → SlotRow → Type 0
Each s t = Completed (Some s) (Some t)

each_same : (s : SlotRow) → Each s s
each_same s = completed_same (Some s)

each_eaten : (s : SlotRow) → Each s (stopped_row Eaten s)
each_eaten s = record { done = eaten_done s.frame; blocked = eaten_free s.frame }

each_killed : (job : ℕ) (s : SlotRow) → Each s (killed_row job s)
each_killed job s = cond_each (Each s) (is_left_of job s) (stopped_row Eaten s) s (each_eaten s) (each_same s)

at_each : (olds news : List SlotRow) → AllZip Each olds news → (slot : ℕ) → Completed (slice_get olds slot) (slice_get news slot)
at_each [] [] zip slot = completed_same None
at_each [] (t ∷ ts) zip slot = absurd zip
at_each (s ∷ ss) [] zip slot = absurd zip
at_each (s ∷ ss) (t ∷ ts) zip zero = zip.0
at_each (s ∷ ss) (t ∷ ts) zip (suc slot) = at_each ss ts zip.1 slot

eat_completes : (f : Farm) (o : Option ℕ) → CompletesFrames f (with_row_at f (stopped_row Eaten) o)
eat_completes f None = record { next = refl; same = (eat_carries f None).same; slots = λ slot. completed_same (slice_get f.slots slot) }
eat_completes f (Some slot) =
    record {
      next = refl;
      same = (eat_carries f (Some slot)).same;
      slots = at_each f.slots (changed_at f.slots slot (stopped_row Eaten)) (zip_changed_at Each each_same (stopped_row Eaten) f.slots slot (λ s at. each_eaten s));
    }

kill_completes : (f : Farm) (o : Option JobRow) → CompletesFrames f (with_killed f o)
kill_completes f None = record { next = refl; same = (kill_carries f None).same; slots = λ slot. completed_same (slice_get f.slots slot) }
kill_completes f (Some j) =
    record {
      next = refl;
      same = (kill_carries f (Some j)).same;
      slots = at_each f.slots (map (killed_row j.job) f.slots) (zip_map Each (killed_row j.job) (each_killed j.job) f.slots);
    }

-- ---- reports

end_next : (f : Farm) (host boot : ℕ) (ds : List DoneItem) → (end_all f host boot ds).next_job ≡ f.next_job
end_next f host boot [] = refl
end_next f host boot (d ∷ ds) =
    end_next (end_attempt f host boot d) host boot ds
    ∙ cond_each (λ (g : Farm). g.next_job ≡ f.next_job) (is_live f host boot d.attempt.slot d.attempt.version) (ended f d.attempt.slot d.exit) f refl refl

heard_next : (f : Farm) (heard : HeardAct) (moment : ℕ) (o : Option ℕ) → (after_heard f heard moment o).next_job ≡ f.next_job
heard_next f heard moment None = refl
heard_next f heard moment (Some host) = end_next (record f { hosts = changed_at f.hosts host (heard_row heard.seq moment) }) host heard.boot heard.done

heard_completes : (f : Farm) (heard : HeardAct) (moment : ℕ) → IsSound f → HasItsHosts f → (o : Option ℕ) → CompletesFrames f (after_heard (expire f moment) heard moment o)
heard_completes f heard moment ok there o =
    record {
      next = heard_next (expire f moment) heard moment o;
      same = (heard_carried f heard moment ok there o).same;
      slots = λ slot. completed_rests (slice_get f.slots slot) (slice_get (after_heard (expire f moment) heard moment o).slots slot) (heard_rests f heard moment ok there o slot);
    }

-- ---- acts

act_completes : (f : Farm) (moment : ℕ) (act : Act) → IsCompleting act → IsSound f → HasItsHosts f → CompletesFrames f (after_act f moment act)
act_completes f moment (Heard heard) c ok there = heard_completes f heard moment ok there (host_named f heard.host)
act_completes f moment (KillJob job) c ok there = kill_completes f (pending_named f job)
act_completes f moment (EatFrame p) c ok there = eat_completes f (slot_named f p)
act_completes f moment other c ok there = absurd c

-- at the entry's moment
pub acted_completes : (f : Farm) (e : Entry) → IsCompleting e.act → IsSound (at_moment f (moment_of f e.moment)) → HasItsHosts (at_moment f (moment_of f e.moment)) → CompletesFrames f (acted f e)
acted_completes f e c ok there =
    let now = at_moment f (moment_of f e.moment) in
    let done = act_completes now (moment_of f e.moment) e.act c ok there in
    record { next = done.next; same = same_groups_then f now (acted f e) (same_groups f now refl refl refl (frames_same f.slots)) done.same; slots = done.slots }
