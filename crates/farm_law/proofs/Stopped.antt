-- Frames that operators kill, eat and retry: their attempts end, and each frame stays in its slot.
use Rattle.std.proofs.Common.{◌≡◌, ℕ, ◌≤◌, Bool, true, false, List, length, Option, Some, None, refl, sym, ap, subst, ◌∙◌, ◌⊎◌, inl, inr, arith, option_map}
use Rattle.std.specs.List.{AllZip}
use Rattle.std.proofs.lemmas.Bool.{false≢true}
use Rattle.farm_types.specs.declared.attempt.ProcRow.{ProcRow}
use Rattle.farm_types.specs.declared.limits.TheConstants.{LAST_VERSION}
use Rattle.farm_types.specs.declared.rows.JobRow.{JobRow}
use Rattle.farm_types.specs.declared.slot_row.Frame.{Frame}
use Rattle.farm_types.specs.declared.slot_row.SlotRow.{SlotRow}
use Rattle.farm_types.specs.declared.states.FrameState.{FrameState}
use Rattle.farm_types.specs.declared.states.FrameState.TheVariants.{Waiting, Setup, Running, Succeeded, Depend, Dead, Eaten}
use Rattle.farm_types.specs.Farm.{Farm}
use Rattle.farm_types.specs.Operators.{is_left_of, killed_row, retried_row, stopped_row, waits, with_killed, with_row_at}
use Rattle.farm_types.specs.Run.{HasItsAttempt, IsAttemptOf, OnHostOf}
use Rattle.farm_types.specs.Settle.{raised}
use Rattle.farm_types.specs.Sums.{cores_on, memory_on}
use Rattle.farm_types.proofs.Passes.{cond_each}
use Rattle.farm_law.proofs.Follows.{raised_raises}
use Rattle.farm_law.proofs.KeepsLaw.{KeepsLaw}
use Rattle.farm_law.proofs.KeptJobsZip.{zip_changed_at, zip_map, zip_same, zip_stays, zip_sum_most, zip_was, zip_weaker}
use Rattle.farm_law.proofs.RowsStay.{SlotStays, allocs_same, frame_job, hosts_same, jobs_same, slot_same}

-- ---- one slot

-- a frame in that state has no attempt, and no booking of it is half done
abbrev pub is_at_rest : FrameState → Bool
is_at_rest Running = false
is_at_rest Setup = false
is_at_rest other = true

-- the frame in that state, its retries changed so
abbrev pub rested : FrameState → (ℕ → ℕ) → Frame → Frame
rested state retries x = record x { state = state; retries = retries x.retries }

-- The slot has no attempt now, and its frame rests, with no more retries than before. The version hasn't fallen, and is within the last where it was.
pub record IsStopped (s t : SlotRow) : Type 0 where
  pub state : FrameState
  pub retries : ℕ → ℕ
  pub rests : is_at_rest state ≡ true
  pub fewer : (n : ℕ) → retries n ≤ n
  pub frame : t.frame ≡ option_map (rested state retries) s.frame
  pub proc : t.proc ≡ None
  pub version : s.version ≤ t.version
  pub within : s.version ≤ LAST_VERSION → t.version ≤ LAST_VERSION

-- the slot is as it was, or so
abbrev pub SlotStops : SlotRow → SlotRow → Type 0
SlotStops s t = (t ≡ s) ⊎ IsStopped s t

-- a frame that is killed or eaten
pub row_stops : (state : FrameState) → is_at_rest state ≡ true → (s : SlotRow) → IsStopped s (stopped_row state s)
row_stops state rests s =
    let version =
    cond_each (λ (n : ℕ). (s.version ≤ n) × (s.version ≤ LAST_VERSION → n ≤ LAST_VERSION)) (waits s) (raised s.version) s.version
    (raised_raises.rises s.version, raised_raises.within s.version) (omega arith, λ h. h) in
    record { state = state; retries = λ n. n; rests = rests; fewer = λ n. omega arith; frame = refl; proc = refl; version = version.0; within = version.1 }

-- one that is retried
pub retried_stops : (s : SlotRow) → IsStopped s (retried_row s)
retried_stops s =
    record { state = Waiting; retries = λ n. 0; rests = refl; fewer = λ n. omega arith; frame = refl; proc = refl; version = omega arith; within = λ h. h }

-- one of a job that is killed, or another
killed_stops : (job : ℕ) (s : SlotRow) → SlotStops s (killed_row job s)
killed_stops job s = cond_each (SlotStops s) (is_left_of job s) (stopped_row Eaten s) s (inr (row_stops Eaten refl s)) (inl refl)

-- ---- a farm

-- The second farm has all else of the first, and each slot is as it was, or stopped.
pub record Stops (f g : Farm) : Type 0 where
  pub rest : g ≡ record f { slots = g.slots }
  pub slots : AllZip SlotStops f.slots g.slots

pub stops_same : (f : Farm) → Stops f f
stops_same f = record { rest = refl; slots = zip_same SlotStops (λ s. inl refl) f.slots }

-- the frame in one slot
pub frame_stops : (change : SlotRow → SlotRow) → ((s : SlotRow) → IsStopped s (change s)) → (f : Farm) (o : Option ℕ) → Stops f (with_row_at f change o)
frame_stops change stops f None = stops_same f
frame_stops change stops f (Some slot) = record { rest = refl; slots = zip_changed_at SlotStops (λ s. inl refl) change f.slots slot (λ s at. inr (stops s)) }

-- those of a job
pub job_stops : (f : Farm) (o : Option JobRow) → Stops f (with_killed f o)
job_stops f None = stops_same f
job_stops f (Some j) = record { rest = refl; slots = zip_map SlotStops (killed_row j.job) (killed_stops j.job) f.slots }

-- ---- what one slot keeps

rest_attempt : (place version : ℕ) (state : FrameState) → is_at_rest state ≡ true → IsAttemptOf place version state None
rest_attempt place version Waiting rests = tt
rest_attempt place version Setup rests = absurd (false≢true rests)
rest_attempt place version Running rests = absurd (false≢true rests)
rest_attempt place version Succeeded rests = tt
rest_attempt place version Depend rests = tt
rest_attempt place version Dead rests = tt
rest_attempt place version Eaten rests = tt

rested_attempt : (place version : ℕ) (state : FrameState) (retries : ℕ → ℕ) (frame : Option Frame) → is_at_rest state ≡ true → HasItsAttempt place version (option_map (rested state retries) frame) None
rested_attempt place version state retries None rests = tt
rested_attempt place version state retries (Some x) rests = rest_attempt place version state rests

-- its frame still has its attempt, or none
slot_attempt : (place : ℕ) (s t : SlotRow) → SlotStops s t → HasItsAttempt place s.version s.frame s.proc → HasItsAttempt place t.version t.frame t.proc
slot_attempt place s t (inl same) has = subst (λ (x : SlotRow). HasItsAttempt place x.version x.frame x.proc) (sym same) has
slot_attempt place s t (inr stop) has =
    subst (λ (o : Option ProcRow). HasItsAttempt place t.version t.frame o) (sym stop.proc)
    (subst (λ (o : Option Frame). HasItsAttempt place t.version o None) (sym stop.frame) (rested_attempt place t.version stop.state stop.retries s.frame stop.rests))

slot_weight : (weight : Option ProcRow → ℕ) → weight None ≡ 0 → (s t : SlotRow) → SlotStops s t → weight t.proc ≤ weight s.proc
slot_weight weight none s t (inl same) = let kept = ap (λ (x : SlotRow). weight x.proc) same in omega (arith, kept)
slot_weight weight none s t (inr stop) = let left = ap weight stop.proc in omega (arith, left, none)

slot_host : (hosts : ℕ) (s t : SlotRow) → SlotStops s t → OnHostOf hosts s.proc → OnHostOf hosts t.proc
slot_host hosts s t (inl same) there = subst (λ (x : SlotRow). OnHostOf hosts x.proc) (sym same) there
slot_host hosts s t (inr stop) there = subst (OnHostOf hosts) (sym stop.proc) tt

rested_job : (state : FrameState) (retries : ℕ → ℕ) (frame : Option Frame) → frame_job (option_map (rested state retries) frame) ≡ frame_job frame
rested_job state retries None = refl
rested_job state retries (Some x) = refl

slot_stays : (s t : SlotRow) → SlotStops s t → SlotStays s t
slot_stays s t (inl same) = subst (SlotStays s) (sym same) (slot_same s)
slot_stays s t (inr stop) =
    record {
      version = stop.version;
      proc = λ e none. stop.proc;
      job = λ e below n has. ap frame_job stop.frame ∙ (rested_job stop.state stop.retries s.frame ∙ has);
    }

-- ---- the law

stopped_law : (f : Farm) (slots : List SlotRow) → AllZip SlotStops f.slots slots → KeepsLaw f (record f { slots = slots })
stopped_law f slots zip =
    let sum = λ (weight : Option ProcRow → ℕ) (none : weight None ≡ 0). zip_sum_most SlotStops (λ (s : SlotRow). weight s.proc) (slot_weight weight none) f.slots slots zip in
    record {
      sound = λ ok there.
          record {
            cores = λ n row at. omega (arith, sum (cores_on n) refl, ok.cores n row at);
            memory = λ n row at. omega (arith, sum (memory_on n) refl, ok.memory n row at);
            attempts = λ i t at.
                let was = zip_was SlotStops f.slots slots zip i t at in
                slot_attempt i was.0 t was.2 (ok.attempts i was.0 was.1);
          };
      hosts = λ ok there i t at.
          let was = zip_was SlotStops f.slots slots zip i t at in
          slot_host (length f.hosts) was.0 t was.2 (there i was.0 was.1);
      rows =
          record {
            slots = zip_stays SlotStays f.slots slots (zip_weaker SlotStops SlotStays slot_stays f.slots slots zip);
            hosts = hosts_same f.hosts;
            allocs = allocs_same f.allocs;
            jobs = jobs_same f.jobs;
          };
    }

pub stops_law : (f g : Farm) → Stops f g → KeepsLaw f g
stops_law f g stops = subst (KeepsLaw f) (sym stops.rest) (stopped_law f g.slots stops.slots)
