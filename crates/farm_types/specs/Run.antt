-- Runs of entries: when a run is legal, and what makes it safe.
use Rattle.std.specs.Prelude.{ℕ, ◌≡◌, ◌≤◌, ◌<◌, ◌==◌, ◌&&◌, List, [], ◌∷◌, ◌++◌, length, Bool, true, false, Option, None, Some, IfSome, IsSomeAnd, option_and_then, slice_get, if◌then◌else◌}
use Rattle.std.specs.List.{list_any}
use Rattle.farm_types.specs.declared.attempt.DoneItem.{DoneItem}
use Rattle.farm_types.specs.declared.attempt.Attempt.{Attempt}
use Rattle.farm_types.specs.declared.attempt.ProcRow.{ProcRow}
use Rattle.farm_types.specs.declared.entry.Entry.{Entry}
use Rattle.farm_types.specs.declared.entry.Act.{Act}
use Rattle.farm_types.specs.declared.entry.Act.TheVariants.{Heard, Book}
use Rattle.farm_types.specs.declared.entry.HeardAct.{HeardAct}
use Rattle.farm_types.specs.declared.rows.HostRow.{HostRow}
use Rattle.farm_types.specs.declared.slot_row.Frame.{Frame}
use Rattle.farm_types.specs.declared.slot_row.SlotRow.{SlotRow}
use Rattle.farm_types.specs.declared.states.FrameState.{FrameState}
use Rattle.farm_types.specs.declared.states.FrameState.TheVariants as frame_state
use Rattle.farm_types.specs.Farm.{Farm, changed_at, layer_at, sub_at, host_named}
use Rattle.farm_types.specs.Sums.{used_cores, used_memory, booked_in, running_in}
use Rattle.farm_types.specs.Depends.{is_open}
use Rattle.farm_types.specs.Formed.{IsFormed}
use Rattle.farm_types.specs.Hosts.{heard_row}
use Rattle.farm_types.specs.Step.{refusal_of, HasCondition, after, at_moment, moment_of, expire, is_live, end_attempt}

-- ---- legal

-- the farm after all entries, in order
abbrev pub run_of : Farm → List Entry → Farm
run_of f [] = f
run_of f (e ∷ es) = run_of (after f e) es

-- the entry is within its forms and limits, the farm doesn't refuse it, and a booking may be recorded
pub record IsLegalStep (f : Farm) (e : Entry) : Type 0 where
  pub formed : IsFormed e
  pub accepted : refusal_of f e ≡ None
  pub condition : HasCondition f e.act

abbrev pub IsLegal : Farm → List Entry → Type 0
IsLegal f [] = Unit {0}
IsLegal f (e ∷ es) = IsLegalStep f e × IsLegal (after f e) es

-- ---- safe

-- a slot's frame and its live attempt: exactly a running frame has one, of the slot's version and number
abbrev pub IsAttemptOf : ℕ → ℕ → FrameState → Option ProcRow → Type 0
IsAttemptOf place version frame_state.Running None = ⊥
IsAttemptOf place version frame_state.Running (Some p) = (p.slot ≡ place) × (p.version ≡ version)
IsAttemptOf place version state None = Unit {0}
IsAttemptOf place version state (Some p) = ⊥

abbrev pub HasItsAttempt : ℕ → ℕ → Option Frame → Option ProcRow → Type 0
HasItsAttempt place version None None = Unit {0}
HasItsAttempt place version None (Some p) = ⊥
HasItsAttempt place version (Some frame) proc = IsAttemptOf place version frame.state proc

-- No host is used past its cores or memory, and exactly the running frames have a live attempt, of their version.
pub record IsSound (f : Farm) : Type 0 where
  pub cores : (n : ℕ) (row : HostRow) → slice_get f.hosts n ≡ Some row → used_cores f n ≤ row.cores
  pub memory : (n : ℕ) (row : HostRow) → slice_get f.hosts n ≡ Some row → used_memory f n ≤ row.memory
  pub attempts : (i : ℕ) (s : SlotRow) → slice_get f.slots i ≡ Some s → HasItsAttempt i s.version s.frame s.proc

-- each live attempt is on a host that is there
abbrev pub OnHostOf : ℕ → Option ProcRow → Type 0
OnHostOf hosts None = Unit {0}
OnHostOf hosts (Some p) = p.host < hosts

abbrev pub HasItsHosts : Farm → Type 0
HasItsHosts f = (i : ℕ) (s : SlotRow) → slice_get f.slots i ≡ Some s → OnHostOf (length f.hosts) s.proc

-- the live attempt of a slot
abbrev pub live_at : Farm → ℕ → Option ProcRow
live_at f slot = option_and_then (λ s. s.proc) (slice_get f.slots slot)

-- the subscription is there, and its booked cores are within its burst
abbrev pub IsWithinBurst : Farm → ℕ → Type 0
IsWithinBurst f sub = IsSomeAnd (sub_at f sub) (λ s. booked_in f sub ≤ s.burst)

-- the limit of the layer of the slot's frame
abbrev pub limit_at : Farm → ℕ → Option ℕ
limit_at f slot =
    option_and_then (λ s. option_and_then (λ frame. option_and_then (λ layer. layer.limit) (layer_at f frame.job frame.layer)) s.frame) (slice_get f.slots slot)

-- the limit is there, and no more frames run in it than may
abbrev pub IsWithinLimit : Farm → ℕ → Type 0
IsWithinLimit f limit = IsSomeAnd (slice_get f.limits limit) (λ row. running_in f limit ≤ row.most)

-- A booking finds its frame open. Afterwards the slot has a live attempt on the host, the attempt's subscription is there and within
-- its burst, and so is the limit of the frame's layer, where it has one.
pub record BooksSafely (old new : Farm) (slot host : ℕ) : Type 0 where
  pub unblocked : is_open old slot ≡ true
  pub attempt : IsSomeAnd (live_at new slot) (λ p. p.host ≡ host)
  pub burst : IsSomeAnd (live_at new slot) (λ p. IsWithinBurst new p.sub)
  pub limit : IfSome (limit_at new slot) (IsWithinLimit new)

abbrev pub ActsSafely : Farm → Farm → Act → Type 0
ActsSafely old new (Book slot host) = BooksSafely old new slot host
ActsSafely old new act = Unit {0}

-- ---- completions

-- the attempts that completions change, in order
abbrev pub counted_in : Farm → ℕ → ℕ → List DoneItem → List Attempt
counted_in f host boot [] = []
counted_in f host boot (d ∷ ds) =
    if is_live f host boot d.attempt.slot d.attempt.version
    then d.attempt ∷ counted_in (end_attempt f host boot d) host boot ds
    else counted_in f host boot ds

abbrev pub counted_of : Farm → HeardAct → ℕ → Option ℕ → List Attempt
counted_of f act moment None = []
counted_of f act moment (Some host) = counted_in (record f { hosts = changed_at f.hosts host (heard_row act.seq moment) }) host act.boot act.done

abbrev pub counted_by : Farm → ℕ → Act → List Attempt
counted_by f moment (Heard act) = counted_of (expire f moment) act moment (host_named f act.host)
counted_by f moment act = []

-- the attempts that the completions of a run change, in order
abbrev pub counted : Farm → List Entry → List Attempt
counted f [] = []
counted f (e ∷ es) = counted_by (at_moment f (moment_of f e.moment)) (moment_of f e.moment) e.act ++ counted (after f e) es

abbrev pub is_same : Attempt → Attempt → Bool
is_same a b = a.slot == b.slot && a.version == b.version

-- no attempt stands twice in the list
abbrev pub AttemptsDiffer : List Attempt → Type 0
AttemptsDiffer [] = Unit {0}
AttemptsDiffer (a ∷ later) = (list_any (is_same a) later ≡ false) × AttemptsDiffer later

-- ---- a whole run

-- each farm of the run is sound, and each booking safe
abbrev pub EachStepSafe : Farm → List Entry → Type 0
EachStepSafe f [] = IsSound f
EachStepSafe f (e ∷ es) = IsSound f × ActsSafely (at_moment f (moment_of f e.moment)) (after f e) e.act × EachStepSafe (after f e) es

-- A run is safe where each of its farms is sound, each booking is safe, and each completion that changes the farm is of an attempt that
-- no other completion of the run changes. That such a completion is of an attempt live just before is what `end_attempt` says.
pub record IsSafe (f : Farm) (es : List Entry) : Type 0 where
  pub steps : EachStepSafe f es
  pub once : AttemptsDiffer (counted f es)
