-- What each act keeps of depends by the slots that it changes. After a report the farm is to be settled.
use Rattle.std.proofs.Common.{◌≡◌, ◌≢◌, ℕ, Bool, true, false, cond, List, [], ◌∷◌, Option, Some, None, eqb, refl, sym, ap, subst, ◌∙◌, ◌⊎◌, inl, inr, option_map}
use Rattle.std.specs.List.{slice_get}
use Rattle.std.proofs.lemmas.Bool.{false≢true}
use Rattle.farm_types.specs.declared.attempt.DoneItem.{DoneItem}
use Rattle.farm_types.specs.declared.attempt.Exit.{Exit}
use Rattle.farm_types.specs.declared.attempt.ProcRow.{ProcRow}
use Rattle.farm_types.specs.declared.boot.BootLine.{BootLine}
use Rattle.farm_types.specs.declared.entry.HeardAct.{HeardAct}
use Rattle.farm_types.specs.declared.rows.HostRow.{HostRow}
use Rattle.farm_types.specs.declared.slot_row.Frame.{Frame}
use Rattle.farm_types.specs.declared.slot_row.SlotRow.{SlotRow}
use Rattle.farm_types.specs.declared.states.FrameState.{FrameState}
use Rattle.farm_types.specs.declared.states.FrameState.TheVariants.{Waiting, Setup, Running, Succeeded, Depend, Dead, Eaten}
use Rattle.farm_types.specs.declared.states.LockState.{LockState}
use Rattle.farm_types.specs.declared.sub_line.SubLine.{SubLine}
use Rattle.farm_types.specs.Booking.{is_waiting, may_record}
use Rattle.farm_types.specs.Depends.{is_done_state}
use Rattle.farm_types.specs.Farm.{Farm, changed_at, host_named}
use Rattle.farm_types.specs.Hosts.{heard_row, is_same_life}
use Rattle.farm_types.specs.Kept.{KeepsDepends, KeepsRows}
use Rattle.farm_types.specs.Lost.{lose_on}
use Rattle.farm_types.specs.Run.{IsSound}
use Rattle.farm_types.specs.Settle.{is_blocked}
use Rattle.farm_types.specs.Step.{after_boot, after_heard, after_limit, after_lock, after_sub, at_moment, booked_row, end_all, end_attempt, ended_row, expire, is_attempt, is_live, is_silent, lose_life, new_proc, proc_of, slots_at_boot, with_proc}
use Rattle.farm_types.proofs.Changed.{changed_at_other, places}
use Rattle.farm_types.proofs.Lists.{for_some_true}
use Rattle.farm_types.proofs.Passes.{cond_each}
use Rattle.farm_law.proofs.Booked.{booking_makes}
use Rattle.farm_law.proofs.CanBook.{can_book}
use Rattle.farm_law.proofs.Ended.{ended, ended_sound}
use Rattle.farm_law.proofs.Hosts.{heard_law}
use Rattle.farm_law.proofs.KeptChanges.{kept_expire, kept_hosts}
use Rattle.depend_law.specs.Unsettled.{Unsettled, WaitingOpen}
use Rattle.depend_law.proofs.Carries.{Carries, CarriesAll, all_same, all_turns, carries_then, carries_turns, kept_by, unsettled_by, waiting_by}
use Rattle.depend_law.proofs.Shapes.{SameFrames, booked_frames, ended_frames, frames_same, lose_frames}
use Rattle.depend_law.proofs.Turns.{Turns, is_active, on_frame, on_slot, running_active, runs_frame, turns_changed, turns_lost, turns_same}

-- ---- what leaves slots as they are

-- a moment goes by
pub later_keeps : (f : Farm) (moment : ℕ) → KeepsDepends f → KeepsDepends (at_moment f moment)
later_keeps f moment k = kept_by f (at_moment f moment) k (all_same f (at_moment f moment) refl refl refl refl refl refl)

pub sub_keeps : (f : Farm) (line : SubLine) (o : Option ℕ) → KeepsDepends f → KeepsDepends (after_sub f line o)
sub_keeps f line None k = k
sub_keeps f line (Some sub) k = kept_by f (after_sub f line (Some sub)) k (all_same f (after_sub f line (Some sub)) refl refl refl refl refl refl)

pub limit_keeps : (f : Farm) (name : List ℕ) (most : ℕ) (o : Option ℕ) → KeepsDepends f → KeepsDepends (after_limit f name most o)
limit_keeps f name most None k = kept_by f (after_limit f name most None) k (all_same f (after_limit f name most None) refl refl refl refl refl refl)
limit_keeps f name most (Some limit) k = kept_by f (after_limit f name most (Some limit)) k (all_same f (after_limit f name most (Some limit)) refl refl refl refl refl refl)

pub lock_keeps : (f : Farm) (lock : LockState) (o : Option ℕ) → KeepsDepends f → KeepsDepends (after_lock f lock o)
lock_keeps f lock None k = k
lock_keeps f lock (Some host) k = kept_by f (after_lock f lock (Some host)) k (all_same f (after_lock f lock (Some host)) refl refl refl refl refl refl)

-- ---- lost attempts

pub expire_carries : (f : Farm) (moment : ℕ) → IsSound f → CarriesAll f (expire f moment)
expire_carries f moment ok =
    all_turns f (expire f moment) refl refl refl refl refl (lose_frames (is_silent f moment) f.slots) (turns_lost (is_silent f moment) f.slots ok.attempts)

-- hosts that are silent go down
pub expire_keeps : (f : Farm) (moment : ℕ) → IsSound f → KeepsDepends f → KeepsDepends (expire f moment)
expire_keeps f moment ok k = kept_by f (expire f moment) k (expire_carries f moment ok)

life_frames : (line : BootLine) (host : ℕ) (o : Option HostRow) (slots : List SlotRow) → SameFrames slots (lose_life line host o slots)
life_frames line host None slots = frames_same slots
life_frames line host (Some row) slots =
    cond_each (SameFrames slots) (is_same_life line row) slots (lose_on (λ n. eqb n host) slots) (frames_same slots) (lose_frames (λ n. eqb n host) slots)

pub boot_frames : (f : Farm) (line : BootLine) (o : Option ℕ) → SameFrames f.slots (slots_at_boot f line o)
boot_frames f line None = frames_same f.slots
boot_frames f line (Some host) = life_frames line host (slice_get f.hosts host) f.slots

life_turns : (f : Farm) → IsSound f → (line : BootLine) (host : ℕ) (o : Option HostRow) (slot : ℕ) → Turns (slice_get f.slots slot) (slice_get (lose_life line host o f.slots) slot)
life_turns f ok line host None slot = turns_same (slice_get f.slots slot)
life_turns f ok line host (Some row) slot =
    cond_each (λ (slots : List SlotRow). Turns (slice_get f.slots slot) (slice_get slots slot)) (is_same_life line row) f.slots (lose_on (λ n. eqb n host) f.slots)
    (turns_same (slice_get f.slots slot)) (turns_lost (λ n. eqb n host) f.slots ok.attempts slot)

pub boot_turns : (f : Farm) → IsSound f → (line : BootLine) (o : Option ℕ) (slot : ℕ) → Turns (slice_get f.slots slot) (slice_get (slots_at_boot f line o) slot)
boot_turns f ok line None slot = turns_same (slice_get f.slots slot)
boot_turns f ok line (Some host) slot = life_turns f ok line host (slice_get f.hosts host) slot

-- a host boots
pub boot_keeps : (f : Farm) (line : BootLine) (moment : ℕ) (o : Option ℕ) → IsSound f → KeepsDepends f → KeepsDepends (after_boot f line moment o)
boot_keeps f line moment None ok k = k
boot_keeps f line moment (Some alloc) ok k =
    kept_by f (after_boot f line moment (Some alloc)) k
    (all_turns f (after_boot f line moment (Some alloc)) refl refl refl refl refl (boot_frames f line (host_named f line.host)) (boot_turns f ok line (host_named f line.host)))

-- ---- bookings

waits_state : (state : FrameState) → is_waiting state ≡ true → (false ≡ is_done_state state) × (is_active state ≡ true)
waits_state Waiting h = (refl, refl)
waits_state Setup h = absurd (false≢true h)
waits_state Running h = absurd (false≢true h)
waits_state Succeeded h = absurd (false≢true h)
waits_state Depend h = absurd (false≢true h)
waits_state Dead h = absurd (false≢true h)
waits_state Eaten h = absurd (false≢true h)

-- a waiting frame that runs
runs_now : (frame : Option Frame) (x : Frame) → frame ≡ Some x → is_waiting x.state ≡ true
    → (on_frame is_done_state (option_map (λ (y : Frame). record y { state = Running }) frame) ≡ on_frame is_done_state frame)
    × (on_frame is_blocked (option_map (λ (y : Frame). record y { state = Running }) frame) ≡ true → on_frame is_blocked frame ≡ true)
    × (on_frame is_active frame ≡ true)
runs_now frame x is h = rw is (let w = waits_state x.state h in (w.0, λ b. absurd (false≢true b), w.1))

pub booked_turn : (p : ProcRow) (s : SlotRow) (x : Frame) → s.frame ≡ Some x → is_waiting x.state ≡ true → Turns (Some s) (Some (booked_row p s))
booked_turn p s x is h = let r = runs_now s.frame x is h in record { done = r.0; blocked = r.1; active = λ _. r.2 }

-- a frame is booked
pub book_keeps : (f : Farm) (slot host moment : ℕ) → may_record f slot host ≡ true → KeepsDepends f → KeepsDepends (with_proc f slot (new_proc f slot host moment))
book_keeps f slot host moment allowed k =
    let found = can_book f slot host allowed in
    let r = found.0 in
    let can = found.1 in
    let p = proc_of slot host moment r.slot r.job r.layer r.host in
    let g = record f { slots = changed_at f.slots slot (booked_row p) } in
    subst KeepsDepends (sym (booking_makes f slot host moment r can))
    (kept_by f g k
    (all_turns f g refl refl refl refl refl (booked_frames p f.slots slot)
    (turns_changed f.slots slot (booked_row p) r.slot can.slot_is (booked_turn p r.slot r.frame can.frame_is can.waits))))

-- ---- completions

-- a slot that was active may be anything
active_changed : (slots : List SlotRow) (i : ℕ) (change : SlotRow → SlotRow) → on_slot is_active (slice_get slots i) ≡ true → (slot : ℕ) → (slot ≡ i) ⊎ (slot ≢ i)
    → on_slot is_active (slice_get (changed_at slots i change) slot) ≡ true → on_slot is_active (slice_get slots slot) ≡ true
active_changed slots i change was slot (inl e) h = subst (λ (k : ℕ). on_slot is_active (slice_get slots k) ≡ true) (sym e) was
active_changed slots i change was slot (inr apart) h = ap (on_slot is_active) (sym (changed_at_other slots i slot change apart)) ∙ h

-- an attempt that is live runs
live_active : (f : Farm) (host boot slot version : ℕ) → IsSound f → is_live f host boot slot version ≡ true → on_slot is_active (slice_get f.slots slot) ≡ true
live_active f host boot slot version ok live =
    let s = for_some_true (slice_get f.slots slot) _ live in
    let p = for_some_true s.0.proc (is_attempt host boot version) s.2 in
    ap (on_slot is_active) s.1 ∙ running_active s.0.frame (runs_frame slot s.0.version s.0.frame s.0.proc p.0 p.1 (ok.attempts slot s.0 s.1))

pub same_carries : (f : Farm) → Carries f f
same_carries f = (all_same f f refl refl refl refl refl refl).carries

ended_carries : (f : Farm) (slot : ℕ) (exit : Exit) → on_slot is_active (slice_get f.slots slot) ≡ true → Carries f (ended f slot exit)
ended_carries f slot exit was =
    carries_turns f (ended f slot exit) refl refl refl refl refl (ended_frames f exit f.slots slot)
    (λ k h. active_changed f.slots slot (ended_row f exit) was k (places k slot) h)

end_step : (f : Farm) (host boot : ℕ) (d : DoneItem) → IsSound f → (b : Bool) → is_live f host boot d.attempt.slot d.attempt.version ≡ b → Carries f (cond b (ended f d.attempt.slot d.exit) f)
end_step f host boot d ok true is = ended_carries f d.attempt.slot d.exit (live_active f host boot d.attempt.slot d.attempt.version ok is)
end_step f host boot d ok false is = same_carries f

end_carries : (f : Farm) (host boot : ℕ) (d : DoneItem) → IsSound f → Carries f (end_attempt f host boot d)
end_carries f host boot d ok = end_step f host boot d ok (is_live f host boot d.attempt.slot d.attempt.version) refl

pub end_sound : (f : Farm) (host boot : ℕ) (d : DoneItem) → IsSound f → IsSound (end_attempt f host boot d)
end_sound f host boot d ok = cond_each IsSound (is_live f host boot d.attempt.slot d.attempt.version) (ended f d.attempt.slot d.exit) f (ended_sound f d.attempt.slot d.exit ok) ok

pub ends_carry : (f : Farm) (host boot : ℕ) (ds : List DoneItem) → IsSound f → Carries f (end_all f host boot ds)
ends_carry f host boot [] ok = same_carries f
ends_carry f host boot (d ∷ ds) ok =
    let now = end_attempt f host boot d in
    carries_then f now (end_all now host boot ds) (end_carries f host boot d ok) (ends_carry now host boot ds (end_sound f host boot d ok))

report_carries : (f : Farm) (heard : HeardAct) (moment : ℕ) (o : Option ℕ) → KeepsRows f → Carries f (after_heard f heard moment o)
report_carries f heard moment None rows = same_carries f
report_carries f heard moment (Some host) rows =
    let now = record f { hosts = changed_at f.hosts host (heard_row heard.seq moment) } in
    carries_then f now (end_all now host heard.boot heard.done) (all_same f now refl refl refl refl refl refl).carries
    (ends_carry now host heard.boot heard.done ((heard_law f host heard.seq moment).sound rows.sound (kept_hosts f rows)))

pub heard_carries : (f : Farm) (heard : HeardAct) (moment : ℕ) (o : Option ℕ) → KeepsRows f → Carries f (after_heard (expire f moment) heard moment o)
heard_carries f heard moment o rows =
    carries_then f (expire f moment) (after_heard (expire f moment) heard moment o) (expire_carries f moment rows.sound).carries
    (report_carries (expire f moment) heard moment o (kept_expire f moment rows))

-- a report, before what follows of it
pub heard_leaves : (f : Farm) (heard : HeardAct) (moment : ℕ) (o : Option ℕ) → KeepsRows f → KeepsDepends f → Unsettled (after_heard (expire f moment) heard moment o)
heard_leaves f heard moment o rows k = unsettled_by f (after_heard (expire f moment) heard moment o) k (heard_carries f heard moment o rows)

pub heard_waiting : (f : Farm) (heard : HeardAct) (moment : ℕ) (o : Option ℕ) → KeepsRows f → KeepsDepends f → WaitingOpen (after_heard (expire f moment) heard moment o)
heard_waiting f heard moment o rows k = waiting_by f (after_heard (expire f moment) heard moment o) k (heard_carries f heard moment o rows)
