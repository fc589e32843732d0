-- A report changes only slots whose frames run, and leaves none of them blocked.
use Rattle.std.proofs.Common.{◌≡◌, ◌≢◌, ◌⊎◌, inl, inr, ℕ, Bool, true, false, cond, List, [], ◌∷◌, Option, None, Some, option_map, refl, sym, ap, subst, ◌∙◌}
use Rattle.std.specs.List.{slice_get}
use Rattle.std.proofs.lemmas.Bool.{false≢true}
use Rattle.std.proofs.lemmas.Option.{slice_get-map}
use Rattle.farm_types.specs.declared.attempt.DoneItem.{DoneItem}
use Rattle.farm_types.specs.declared.attempt.ProcRow.{ProcRow}
use Rattle.farm_types.specs.declared.entry.HeardAct.{HeardAct}
use Rattle.farm_types.specs.declared.slot_row.Frame.{Frame}
use Rattle.farm_types.specs.declared.slot_row.SlotRow.{SlotRow}
use Rattle.farm_types.specs.declared.states.FrameState.{FrameState}
use Rattle.farm_types.specs.declared.states.FrameState.TheVariants.{Waiting, Setup, Running, Succeeded, Depend, Dead, Eaten}
use Rattle.farm_types.specs.declared.verdict.Verdict.{Verdict}
use Rattle.farm_types.specs.declared.verdict.Verdict.TheVariants as verdict
use Rattle.farm_types.specs.DependActs.{is_running}
use Rattle.farm_types.specs.Depends.{is_done_state}
use Rattle.farm_types.specs.Farm.{Farm, changed_at, job_at}
use Rattle.farm_types.specs.Hosts.{heard_row}
use Rattle.farm_types.specs.Lost.{lost_row, runs_on}
use Rattle.farm_types.specs.Run.{HasItsAttempt, HasItsHosts, IsSound}
use Rattle.farm_types.specs.Settle.{is_blocked}
use Rattle.farm_types.specs.Step.{after_heard, end_all, end_attempt, ended_row, expire, is_attempt, is_live, is_silent, judged, verdict_for}
use Rattle.farm_types.proofs.Changed.{changed_at_other, changed_at_same, places}
use Rattle.farm_types.proofs.Lists.{for_some_true}
use Rattle.farm_law.proofs.Ended.{ended}
use Rattle.farm_law.proofs.Hosts.{heard_law}
use Rattle.farm_law.proofs.Lost.{expire_law}
use Rattle.depend_law.proofs.Carries.{Carries, all_same, carries_then}
use Rattle.depend_law.proofs.KeptTurns.{end_sound, ends_carry, expire_carries}
use Rattle.depend_law.proofs.Turns.{on_frame, on_slot, runs_frame}

-- A slot whose frame doesn't run stays; one whose frame runs isn't blocked after.
pub record Rests (o n : Option SlotRow) : Type 0 where
  pub same : on_slot is_running o ≡ false → n ≡ o
  pub unblocked : on_slot is_running o ≡ true → on_slot is_blocked n ≡ false

-- ---- states

run_unblocked : (state : FrameState) → is_running state ≡ true → is_blocked state ≡ false
run_unblocked Running h = refl
run_unblocked Waiting h = refl
run_unblocked Setup h = refl
run_unblocked Succeeded h = refl
run_unblocked Dead h = refl
run_unblocked Eaten h = refl
run_unblocked Depend h = absurd (false≢true h)

done_rests : (state : FrameState) → is_done_state state ≡ true → is_running state ≡ false
done_rests Succeeded h = refl
done_rests Eaten h = refl
done_rests Waiting h = refl
done_rests Setup h = refl
done_rests Dead h = refl
done_rests Depend h = refl
done_rests Running h = absurd (false≢true h)

frame_unblocked : (frame : Option Frame) → on_frame is_running frame ≡ true → on_frame is_blocked frame ≡ false
frame_unblocked None h = refl
frame_unblocked (Some x) h = run_unblocked x.state h

slot_unblocked : (o : Option SlotRow) → on_slot is_running o ≡ true → on_slot is_blocked o ≡ false
slot_unblocked None h = refl
slot_unblocked (Some s) h = frame_unblocked s.frame h

frame_done : (frame : Option Frame) → on_frame is_done_state frame ≡ true → on_frame is_running frame ≡ false
frame_done None h = refl
frame_done (Some x) h = done_rests x.state h

slot_done : (o : Option SlotRow) → on_slot is_done_state o ≡ true → on_slot is_running o ≡ false
slot_done None h = refl
slot_done (Some s) h = frame_done s.frame h

-- ---- one after the other

pub rests_same : (o : Option SlotRow) → Rests o o
rests_same o = record { same = λ h. refl; unblocked = slot_unblocked o }

then_unblocked : (n p : Option SlotRow) (b : Bool) → on_slot is_running n ≡ b → Rests n p → on_slot is_blocked n ≡ false → on_slot is_blocked p ≡ false
then_unblocked n p true is second free = second.unblocked is
then_unblocked n p false is second free = ap (on_slot is_blocked) (second.same is) ∙ free

rests_then : (o n p : Option SlotRow) → Rests o n → Rests n p → Rests o p
rests_then o n p first second =
    record {
      same = λ h. second.same (ap (on_slot is_running) (first.same h) ∙ h) ∙ first.same h;
      unblocked = λ h. then_unblocked n p (on_slot is_running n) refl second (first.unblocked h);
    }

-- ---- what is told of them

-- what is done stays done
pub done_stays : (o n : Option SlotRow) → Rests o n → on_slot is_done_state o ≡ true → on_slot is_done_state n ≡ true
done_stays o n r h = ap (on_slot is_done_state) (r.same (slot_done o h)) ∙ h

blocked_by : (o n : Option SlotRow) (b : Bool) → on_slot is_running o ≡ b → Rests o n → on_slot is_blocked n ≡ on_slot is_blocked o
blocked_by o n true is r = r.unblocked is ∙ sym (slot_unblocked o is)
blocked_by o n false is r = ap (on_slot is_blocked) (r.same is)

-- the same frames are blocked
pub blocked_same : (o n : Option SlotRow) → Rests o n → on_slot is_blocked n ≡ on_slot is_blocked o
blocked_same o n r = blocked_by o n (on_slot is_running o) refl r

-- ---- lists

from_running : (s t : SlotRow) → on_frame is_running s.frame ≡ true → on_frame is_blocked t.frame ≡ false → Rests (Some s) (Some t)
from_running s t running free = record { same = λ h. absurd (false≢true (sym h ∙ running)); unblocked = λ h. free }

mapped_rests : (change : SlotRow → SlotRow) (o : Option SlotRow) → ((s : SlotRow) → o ≡ Some s → Rests (Some s) (Some (change s))) → Rests o (option_map change o)
mapped_rests change None each = rests_same None
mapped_rests change (Some s) each = each s refl

rests_changed : (slots : List SlotRow) (i : ℕ) (change : SlotRow → SlotRow) (s : SlotRow) → slice_get slots i ≡ Some s → Rests (Some s) (Some (change s)) → (slot : ℕ) → (slot ≡ i) ⊎ (slot ≢ i)
    → Rests (slice_get slots slot) (slice_get (changed_at slots i change) slot)
rests_changed slots i change s at rests slot (inl e) =
    let old : Some s ≡ slice_get slots slot = sym (subst (λ (k : ℕ). slice_get slots k ≡ Some s) (sym e) at) in
    let new : Some (change s) ≡ slice_get (changed_at slots i change) slot = sym (subst (λ (k : ℕ). slice_get (changed_at slots i change) k ≡ Some (change s)) (sym e) (changed_at_same slots i change s at)) in
    subst (λ (n : Option SlotRow). Rests (slice_get slots slot) n) new (subst (λ (o : Option SlotRow). Rests o (Some (change s))) old rests)
rests_changed slots i change s at rests slot (inr apart) =
    subst (λ (n : Option SlotRow). Rests (slice_get slots slot) n) (sym (changed_at_other slots i slot change apart)) (rests_same (slice_get slots slot))

-- ---- lost attempts

lost_free : (frame : Option Frame) → on_frame is_blocked (option_map (λ (x : Frame). record x { state = Waiting }) frame) ≡ false
lost_free None = refl
lost_free (Some x) = refl

lose_rests : (test : ℕ → Bool) (slot : ℕ) (s : SlotRow) (b : Bool) → runs_on test s ≡ b → HasItsAttempt slot s.version s.frame s.proc → Rests (Some s) (Some (cond b (lost_row s) s))
lose_rests test slot s false is has = rests_same (Some s)
lose_rests test slot s true is has =
    let p = for_some_true s.proc (λ (q : ProcRow). test q.host) is in
    from_running s (lost_row s) (runs_frame slot s.version s.frame s.proc p.0 p.1 has) (lost_free s.frame)

expire_rests : (f : Farm) (moment : ℕ) → IsSound f → (slot : ℕ) → Rests (slice_get f.slots slot) (slice_get (expire f moment).slots slot)
expire_rests f moment ok slot =
    let change = λ (s : SlotRow). cond (runs_on (is_silent f moment) s) (lost_row s) s in
    subst (λ (n : Option SlotRow). Rests (slice_get f.slots slot) n) (sym (slice_get-map change f.slots slot))
    (mapped_rests change (slice_get f.slots slot) (λ s at. lose_rests (is_silent f moment) slot s (runs_on (is_silent f moment) s) refl (ok.attempts slot s at)))

-- ---- completions

judged_free : (x : Frame) (v : Verdict) → is_blocked (judged x v).state ≡ false
judged_free x verdict.Succeeded = refl
judged_free x (verdict.Waiting retries) = refl
judged_free x verdict.Eaten = refl
judged_free x verdict.Dead = refl

ended_free : (verdict : Frame → Verdict) (frame : Option Frame) → on_frame is_blocked (option_map (λ (x : Frame). judged x (verdict x)) frame) ≡ false
ended_free verdict None = refl
ended_free verdict (Some x) = judged_free x (verdict x)

end_step : (f : Farm) (host boot : ℕ) (d : DoneItem) → IsSound f → (slot : ℕ) (b : Bool) → is_live f host boot d.attempt.slot d.attempt.version ≡ b
    → Rests (slice_get f.slots slot) (slice_get (cond b (ended f d.attempt.slot d.exit) f).slots slot)
end_step f host boot d ok slot false is = rests_same (slice_get f.slots slot)
end_step f host boot d ok slot true is =
    let place = d.attempt.slot in
    let s = for_some_true (slice_get f.slots place) _ is in
    let p = for_some_true s.0.proc (is_attempt host boot d.attempt.version) s.2 in
    let running = runs_frame place s.0.version s.0.frame s.0.proc p.0 p.1 (ok.attempts place s.0 s.1) in
    rests_changed f.slots place (ended_row f d.exit) s.0 s.1
    (from_running s.0 (ended_row f d.exit s.0) running (ended_free (λ (x : Frame). verdict_for d.exit x (job_at f x.job)) s.0.frame)) slot (places slot place)

ends_rest : (f : Farm) (host boot : ℕ) (ds : List DoneItem) → IsSound f → (slot : ℕ) → Rests (slice_get f.slots slot) (slice_get (end_all f host boot ds).slots slot)
ends_rest f host boot [] ok slot = rests_same (slice_get f.slots slot)
ends_rest f host boot (d ∷ ds) ok slot =
    let now = end_attempt f host boot d in
    rests_then (slice_get f.slots slot) (slice_get now.slots slot) (slice_get (end_all now host boot ds).slots slot)
    (end_step f host boot d ok slot (is_live f host boot d.attempt.slot d.attempt.version) refl) (ends_rest now host boot ds (end_sound f host boot d ok) slot)

-- ---- reports

module _ (f : Farm) (heard : HeardAct) (moment : ℕ) (ok : IsSound f) (there : HasItsHosts f) where
  past_sound : IsSound (expire f moment)
  past_sound = (expire_law f moment).sound ok there

  heard_sound : (host : ℕ) → IsSound (record (expire f moment) { hosts = changed_at (expire f moment).hosts host (heard_row heard.seq moment) })
  heard_sound host = (heard_law (expire f moment) host heard.seq moment).sound past_sound ((expire_law f moment).hosts ok there)

  pub heard_rests : (o : Option ℕ) (slot : ℕ) → Rests (slice_get f.slots slot) (slice_get (after_heard (expire f moment) heard moment o).slots slot)
  heard_rests None slot = expire_rests f moment ok slot
  heard_rests (Some host) slot =
      let now = record (expire f moment) { hosts = changed_at (expire f moment).hosts host (heard_row heard.seq moment) } in
      rests_then (slice_get f.slots slot) (slice_get (expire f moment).slots slot) (slice_get (end_all now host heard.boot heard.done).slots slot)
      (expire_rests f moment ok slot) (ends_rest now host heard.boot heard.done (heard_sound host) slot)

  -- depends stay with their groups
  pub heard_carried : (o : Option ℕ) → Carries f (after_heard (expire f moment) heard moment o)
  heard_carried None = (expire_carries f moment ok).carries
  heard_carried (Some host) =
      let past = expire f moment in
      let now = record past { hosts = changed_at past.hosts host (heard_row heard.seq moment) } in
      carries_then f past (end_all now host heard.boot heard.done) (expire_carries f moment ok).carries
      (carries_then past now (end_all now host heard.boot heard.done) (all_same past now refl refl refl refl refl refl).carries
      (ends_carry now host heard.boot heard.done (heard_sound host)))
