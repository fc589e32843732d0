-- A completion keeps the farm sound.
use Rattle.std.proofs.Common.{◌≡◌, ℕ, ◌≤◌, List, [], ◌∷◌, length, Option, Some, None, refl, ap, arith, option_map}
use Rattle.std.specs.List.{slice_get, sum_by}
use Rattle.farm_types.specs.declared.attempt.DoneItem.{DoneItem}
use Rattle.farm_types.specs.declared.attempt.Exit.{Exit}
use Rattle.farm_types.specs.declared.attempt.ProcRow.{ProcRow}
use Rattle.farm_types.specs.declared.slot_row.SlotRow.{SlotRow}
use Rattle.farm_types.specs.declared.slot_row.Frame.{Frame}
use Rattle.farm_types.specs.declared.verdict.Verdict.{Verdict}
use Rattle.farm_types.specs.declared.verdict.Verdict.TheVariants.{Succeeded, Waiting, Eaten, Dead}
use Rattle.farm_types.specs.Farm.{Farm, changed_at, changed_by, job_at}
use Rattle.farm_types.specs.Sums.{cores_on, memory_on}
use Rattle.farm_types.specs.Run.{IsSound, HasItsHosts, HasItsAttempt, IsAttemptOf, OnHostOf}
use Rattle.farm_types.specs.Step.{judged, verdict_for, ended_row, end_attempt, end_all, is_live, after_heard}
use Rattle.farm_types.proofs.Changed.{changed_at_each, changed_at_sum}
use Rattle.farm_law.proofs.Hosts.{heard_law}
use Rattle.farm_law.proofs.KeepsLaw.{KeepsLaw, law_same, law_then}
use Rattle.farm_law.proofs.RowsStay.{SlotStays, slot_same, hosts_same, allocs_same, jobs_same, frame_job}
use Rattle.farm_types.proofs.Stays.{EachStays-changed_at}
use Rattle.farm_types.proofs.Passes.{cond_each}
use Rattle.farm_types.specs.Hosts.{heard_row}
use Rattle.farm_types.specs.declared.entry.HeardAct.{HeardAct}
use Rattle.std.proofs.lemmas.Option.{same_Some}

judged_attempt : (place version : ℕ) (frame : Frame) (v : Verdict) → IsAttemptOf place version (judged frame v).state None
judged_attempt place version frame Succeeded = tt
judged_attempt place version frame (Waiting retries) = tt
judged_attempt place version frame Eaten = tt
judged_attempt place version frame Dead = tt

ended_attempt : (place version : ℕ) (verdict : Frame → Verdict) (frame : Option Frame) → HasItsAttempt place version (option_map (λ x. judged x (verdict x)) frame) None
ended_attempt place version verdict None = tt
ended_attempt place version verdict (Some frame) = judged_attempt place version frame (verdict frame)

module _ (f : Farm) (slot : ℕ) (exit : Exit) where
  -- the farm without the slot's attempt
  abbrev pub ended : Farm
  ended = record f { slots = changed_at f.slots slot (ended_row f exit) }

  ended_sum_by : (weight : Option ProcRow → ℕ) → weight None ≡ 0 → (o : Option SlotRow) → slice_get f.slots slot ≡ o → sum_by (λ (s : SlotRow). weight s.proc) ended.slots ≤ sum_by (λ (s : SlotRow). weight s.proc) f.slots
  ended_sum_by weight none None e =
      let kept : ended.slots ≡ f.slots = ap (changed_by f.slots slot (ended_row f exit)) e in
      let same = ap (sum_by (λ (s : SlotRow). weight s.proc)) kept in
      omega (arith, same)
  ended_sum_by weight none (Some s) e = omega (arith, changed_at_sum (λ (s : SlotRow). weight s.proc) f.slots slot (ended_row f exit) s e, none)

  -- a sum over the live attempts doesn't rise
  pub ended_sum : (weight : Option ProcRow → ℕ) → weight None ≡ 0 → sum_by (λ (s : SlotRow). weight s.proc) ended.slots ≤ sum_by (λ (s : SlotRow). weight s.proc) f.slots
  ended_sum weight none = ended_sum_by weight none (slice_get f.slots slot) refl

  pub ended_sound : IsSound f → IsSound ended
  ended_sound ok =
      record {
        cores = λ n row at. omega (arith, ended_sum (cores_on n) refl, ok.cores n row at);
        memory = λ n row at. omega (arith, ended_sum (memory_on n) refl, ok.memory n row at);
        attempts =
            changed_at_each (λ i s. HasItsAttempt i s.version s.frame s.proc) f.slots slot (ended_row f exit)
            (λ s at. ended_attempt slot s.version (λ frame. verdict_for exit frame (job_at f frame.job)) s.frame)
            (λ i s apart at. ok.attempts i s at);
      }

  pub ended_hosts : HasItsHosts f → HasItsHosts ended
  ended_hosts there =
      changed_at_each (λ i s. OnHostOf (length f.hosts) s.proc) f.slots slot (ended_row f exit) (λ s at. tt) (λ i s apart at. there i s at)

judged_job : (n : ℕ) (frame : Frame) (v : Verdict) → frame.job ≡ n → (judged frame v).job ≡ n
judged_job n frame Succeeded has = has
judged_job n frame (Waiting retries) has = has
judged_job n frame Eaten has = has
judged_job n frame Dead has = has

-- the frame that is judged is of the same job
judged_of : (verdict : Frame → Verdict) (frame : Option Frame) (n : ℕ) → frame_job frame ≡ Some n → frame_job (option_map (λ x. judged x (verdict x)) frame) ≡ Some n
judged_of verdict None n has = has
judged_of verdict (Some frame) n has = ap Some (judged_job n frame (verdict frame) (same_Some frame.job n has))

ended_stays : (f : Farm) (exit : Exit) (s : SlotRow) → SlotStays s (ended_row f exit s)
ended_stays f exit s =
    record { version = omega arith; proc = λ e none. refl; job = λ e below n has. judged_of (λ frame. verdict_for exit frame (job_at f frame.job)) s.frame n has }

pub ended_law : (f : Farm) (slot : ℕ) (exit : Exit) → KeepsLaw f (ended f slot exit)
ended_law f slot exit =
    record {
      sound = λ ok there. ended_sound f slot exit ok;
      hosts = λ ok there. ended_hosts f slot exit there;
      rows = record { slots = EachStays-changed_at SlotStays slot_same f.slots slot (ended_row f exit) (λ s at. ended_stays f exit s); hosts = hosts_same f.hosts; allocs = allocs_same f.allocs; jobs = jobs_same f.jobs };
    }

pub end_law : (f : Farm) (host boot : ℕ) (d : DoneItem) → KeepsLaw f (end_attempt f host boot d)
end_law f host boot d = cond_each (KeepsLaw f) (is_live f host boot d.attempt.slot d.attempt.version) (ended f d.attempt.slot d.exit) f (ended_law f d.attempt.slot d.exit) (law_same f)

pub end_all_law : (f : Farm) (host boot : ℕ) (ds : List DoneItem) → KeepsLaw f (end_all f host boot ds)
end_all_law f host boot [] = law_same f
end_all_law f host boot (d ∷ ds) =
    let now = end_attempt f host boot d in
    law_then f now (end_all now host boot ds) (end_law f host boot d) (end_all_law now host boot ds)

pub report_law : (f : Farm) (heard : HeardAct) (moment : ℕ) (o : Option ℕ) → KeepsLaw f (after_heard f heard moment o)
report_law f heard moment None = law_same f
report_law f heard moment (Some host) =
    let now = record f { hosts = changed_at f.hosts host (heard_row heard.seq moment) } in
    law_then f now (end_all now host heard.boot heard.done) (heard_law f host heard.seq moment) (end_all_law now host heard.boot heard.done)
