-- Attempts that are lost with their host: the farm stays sound, and the host's use falls to nothing.
use Rattle.std.proofs.Common.{◌≡◌, ℕ, ◌≤◌, ◌<◌, Bool, true, false, cond, eqb, List, length, Option, Some, None, refl, sym, ap, ◌∙◌, arith, option_map}
use Rattle.std.specs.List.{slice_get, sum_by}
use Rattle.std.proofs.lemmas.Bool.{false≢true, eqb-true}
use Rattle.std.proofs.lemmas.List.{length-map}
use Rattle.farm_types.specs.declared.attempt.ProcRow.{ProcRow}
use Rattle.farm_types.specs.declared.slot_row.Frame.{Frame}
use Rattle.farm_types.specs.declared.slot_row.SlotRow.{SlotRow}
use Rattle.farm_types.specs.declared.states.FrameState.TheVariants.{Waiting}
use Rattle.farm_types.specs.Farm.{Farm, for_some}
use Rattle.farm_types.specs.Hosts.{silenced_row}
use Rattle.farm_types.specs.Lost.{lost_row, runs_on, lose_on}
use Rattle.farm_types.specs.Run.{IsSound, HasItsHosts, HasItsAttempt, OnHostOf}
use Rattle.farm_types.specs.Step.{expire, is_silent}
use Rattle.farm_types.specs.Sums.{used_cores, used_memory, cores_on, memory_on}
use Rattle.farm_types.proofs.Changed.{mapped_each}
use Rattle.farm_types.proofs.ListSums.{sum_by-each_zero, sum_by-map_le, sum_by-map_zero}
use Rattle.farm_law.proofs.Hosts.{mapped_sound, silenced_amounts, silenced_alloc}
use Rattle.farm_law.proofs.KeepsLaw.{KeepsLaw}
use Rattle.farm_law.proofs.RowsStay.{SlotStays, HostStays, slot_same, allocs_same, jobs_same, frame_job}
use Rattle.farm_types.proofs.Stays.{EachStays, EachStays-map}
use Rattle.farm_types.proofs.Passes.{cond_each}

-- ---- sums over live attempts

lost_weight : (weight : Option ProcRow → ℕ) → weight None ≡ 0 → (s : SlotRow) (b : Bool) → (let new : SlotRow = cond b (lost_row s) s in weight new.proc ≤ weight s.proc)
lost_weight weight none s b = cond_each (λ (new : SlotRow). weight new.proc ≤ weight s.proc) b (lost_row s) s (omega (arith, none)) (omega arith)

-- a sum over the live attempts doesn't rise
pub lost_sum : (weight : Option ProcRow → ℕ) → weight None ≡ 0 → (test : ℕ → Bool) → (slots : List SlotRow) → sum_by (λ (s : SlotRow). weight s.proc) (lose_on test slots) ≤ sum_by (λ (s : SlotRow). weight s.proc) slots
lost_sum weight none test slots =
    sum_by-map_le (λ (s : SlotRow). weight s.proc) (λ (s : SlotRow). cond (runs_on test s) (lost_row s) s) (λ s. lost_weight weight none s (runs_on test s)) slots

module _ (weight : Option ProcRow → ℕ) (none : weight None ≡ 0) (test : ℕ → Bool) (light : (p : ProcRow) → test p.host ≡ false → weight (Some p) ≡ 0) where
  weightless : (s : SlotRow) (o : Option ProcRow) (b : Bool) → s.proc ≡ o → for_some o (λ (p : ProcRow). test p.host) ≡ b → (let new : SlotRow = cond b (lost_row s) s in weight new.proc ≡ 0)
  weightless s o true is on = none
  weightless s None false is on = ap weight is ∙ none
  weightless s (Some p) false is on = ap weight is ∙ light p on

  -- where only lost attempts have a weight, nothing is left
  lost_all : (slots : List SlotRow) → sum_by (λ (s : SlotRow). weight s.proc) (lose_on test slots) ≡ 0
  lost_all slots =
      sum_by-map_zero (λ (s : SlotRow). weight s.proc) (λ (s : SlotRow). cond (runs_on test s) (lost_row s) s) (λ s. weightless s s.proc (runs_on test s) refl refl) slots

apart_by : (test : ℕ → Bool) (host n amount : ℕ) (b : Bool) → test host ≡ true → test n ≡ false → eqb n host ≡ b → cond b amount 0 ≡ 0
apart_by test host n amount true here there same = absurd (false≢true (sym there ∙ (ap test (eqb-true n host same) ∙ here)))
apart_by test host n amount false here there same = refl

-- nothing is used of a host whose attempts are lost
pub lost_cores : (slots : List SlotRow) (test : ℕ → Bool) (host : ℕ) → test host ≡ true → sum_by (λ (s : SlotRow). cores_on host s.proc) (lose_on test slots) ≡ 0
lost_cores slots test host here = lost_all (cores_on host) refl test (λ p there. apart_by test host p.host p.cores (eqb p.host host) here there refl) slots

pub lost_memory : (slots : List SlotRow) (test : ℕ → Bool) (host : ℕ) → test host ≡ true → sum_by (λ (s : SlotRow). memory_on host s.proc) (lose_on test slots) ≡ 0
lost_memory slots test host here = lost_all (memory_on host) refl test (λ p there. apart_by test host p.host p.memory (eqb p.host host) here there refl) slots

-- ---- sound

waits_again : (place version : ℕ) (frame : Option Frame) → HasItsAttempt place version (option_map (λ (x : Frame). record x { state = Waiting }) frame) None
waits_again place version None = tt
waits_again place version (Some frame) = tt

lost_attempt : (place : ℕ) (s : SlotRow) (b : Bool) → HasItsAttempt place s.version s.frame s.proc → (let new : SlotRow = cond b (lost_row s) s in HasItsAttempt place new.version new.frame new.proc)
lost_attempt place s b has = cond_each (λ (new : SlotRow). HasItsAttempt place new.version new.frame new.proc) b (lost_row s) s (waits_again place s.version s.frame) has

pub lost_sound : (f : Farm) (test : ℕ → Bool) → IsSound f → IsSound (record f { slots = lose_on test f.slots })
lost_sound f test ok =
    record {
      cores = λ n row at. omega (arith, lost_sum (cores_on n) refl test f.slots, ok.cores n row at);
      memory = λ n row at. omega (arith, lost_sum (memory_on n) refl test f.slots, ok.memory n row at);
      attempts =
          mapped_each (λ i s. HasItsAttempt i s.version s.frame s.proc) f.slots (λ (s : SlotRow). cond (runs_on test s) (lost_row s) s)
          (λ i s at. lost_attempt i s (runs_on test s) (ok.attempts i s at));
    }

lost_host : (hosts : ℕ) (s : SlotRow) (b : Bool) → OnHostOf hosts s.proc → (let new : SlotRow = cond b (lost_row s) s in OnHostOf hosts new.proc)
lost_host hosts s b there = cond_each (λ (new : SlotRow). OnHostOf hosts new.proc) b (lost_row s) s tt there

-- each attempt that is left is on a host that is there
pub lost_there : (hosts : ℕ) (test : ℕ → Bool) (slots : List SlotRow) → ((i : ℕ) (s : SlotRow) → slice_get slots i ≡ Some s → OnHostOf hosts s.proc) → (i : ℕ) (s : SlotRow) → slice_get (lose_on test slots) i ≡ Some s → OnHostOf hosts s.proc
lost_there hosts test slots there =
    mapped_each (λ i s. OnHostOf hosts s.proc) slots (λ (s : SlotRow). cond (runs_on test s) (lost_row s) s)
    (λ i s at. lost_host hosts s (runs_on test s) (there i s at))

pub lost_hosts : (f : Farm) (test : ℕ → Bool) → HasItsHosts f → HasItsHosts (record f { slots = lose_on test f.slots })
lost_hosts f test there = lost_there (length f.hosts) test f.slots there

-- ---- silent hosts

-- the frame that waits again is of the same job
waits_of : (frame : Option Frame) (n : ℕ) → frame_job frame ≡ Some n → frame_job (option_map (λ (x : Frame). record x { state = Waiting }) frame) ≡ Some n
waits_of None n has = has
waits_of (Some frame) n has = has

pub expire_sound : (f : Farm) (moment : ℕ) → IsSound f → IsSound (expire f moment)
expire_sound f moment ok =
    let lost = lost_sound f (is_silent f moment) ok in
    mapped_sound (record f { slots = lose_on (is_silent f moment) f.slots }) (silenced_row moment) (silenced_amounts moment) lost

pub expire_hosts : (f : Farm) (moment : ℕ) → HasItsHosts f → HasItsHosts (expire f moment)
expire_hosts f moment there = rw (length-map f.hosts (silenced_row moment)) (lost_hosts f (is_silent f moment) there)

lost_row_stays : (test : ℕ → Bool) (s : SlotRow) → SlotStays s (cond (runs_on test s) (lost_row s) s)
lost_row_stays test s =
    cond_each (SlotStays s) (runs_on test s) (lost_row s) s
    (record { version = omega arith; proc = λ e none. refl; job = λ e below n has. waits_of s.frame n has })
    (slot_same s)

-- a slot that loses its attempt stays
pub lost_stays : (test : ℕ → Bool) (slots : List SlotRow) → EachStays SlotStays slots (lose_on test slots)
lost_stays test slots = EachStays-map SlotStays slots (λ (s : SlotRow). cond (runs_on test s) (lost_row s) s) (lost_row_stays test)

pub expire_law : (f : Farm) (moment : ℕ) → KeepsLaw f (expire f moment)
expire_law f moment =
    record {
      sound = λ ok there. expire_sound f moment ok;
      hosts = λ ok there. expire_hosts f moment there;
      rows = record { slots = lost_stays (is_silent f moment) f.slots; hosts = EachStays-map HostStays f.hosts (silenced_row moment) (silenced_alloc moment); allocs = allocs_same f.allocs; jobs = jobs_same f.jobs };
    }

-- ---- hosts that aren't there

below_by : (n host amount : ℕ) (b : Bool) → n < host → eqb n host ≡ b → cond b amount 0 ≡ 0
below_by n host amount true below same = absurd (omega (arith, eqb-true n host same, below))
below_by n host amount false below same = refl

no_cores : (hosts host : ℕ) (o : Option ProcRow) → hosts ≤ host → OnHostOf hosts o → cores_on host o ≡ 0
no_cores hosts host None past there = refl
no_cores hosts host (Some p) past there = below_by p.host host p.cores (eqb p.host host) (omega (arith, past, there)) refl

no_memory : (hosts host : ℕ) (o : Option ProcRow) → hosts ≤ host → OnHostOf hosts o → memory_on host o ≡ 0
no_memory hosts host None past there = refl
no_memory hosts host (Some p) past there = below_by p.host host p.memory (eqb p.host host) (omega (arith, past, there)) refl

-- nothing is used of a host that isn't there
pub unused_host : (f : Farm) (host : ℕ) → HasItsHosts f → length f.hosts ≤ host → used_cores f host ≡ 0
unused_host f host there past = sum_by-each_zero (λ (s : SlotRow). cores_on host s.proc) f.slots (λ i s at. no_cores (length f.hosts) host s.proc past (there i s at))

pub unused_memory : (f : Farm) (host : ℕ) → HasItsHosts f → length f.hosts ≤ host → used_memory f host ≡ 0
unused_memory f host there past = sum_by-each_zero (λ (s : SlotRow). memory_on host s.proc) f.slots (λ i s at. no_memory (length f.hosts) host s.proc past (there i s at))
