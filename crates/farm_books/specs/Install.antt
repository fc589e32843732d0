-- What a row that is put in needs of the rows that stand there.
use Rattle.std.specs.Prelude.{ℕ, ◌≡◌, ◌==◌, ◌<◌, ◌+◌, List, map, sum_by, find, slice_get, Option, None, Some, option_and_then}
use Rattle.farm_types.specs.declared.attempt.ProcRow.{ProcRow}
use Rattle.farm_types.specs.declared.job.JobSpec.{JobSpec}
use Rattle.farm_types.specs.declared.rows.SubRow.{SubRow}
use Rattle.farm_types.specs.declared.slot_row.SlotRow.{SlotRow}
use Rattle.farm_types.specs.Farm.{Farm}
use Rattle.farm_types.specs.Jobs.{job_refusal}
use Rattle.farm_types.specs.SpecLimits.{JobKeepsLimits}
use Rattle.farm_types.specs.Step.{lists_of}
use Rattle.farm_types.specs.Sums.{cores_in}
use Rattle.farm_types.specs.declared.limits.TheConstants.{MOST_HOSTS}
use Rattle.job_book.specs.Book.{KeepsFrame, placing_of}
use Rattle.job_book.specs.declared.placement.placing.Placing.{Placing}
use Rattle.sub_ledger.specs.Ledger.{IsWithin}

-- ---- slots

-- each slot's live attempt, if it has one
abbrev pub proc_in : SlotRow → Option ProcRow
proc_in s = s.proc

abbrev pub procs_of : List SlotRow → List (Option ProcRow)
procs_of slots = map proc_in slots

-- the slot has no live attempt; the host's number is below the most; and the subscription is there, with the attempt's cores within its burst
pub record IsBeginning (subs : List SubRow) (slots : List SlotRow) (slot : ℕ) (p : ProcRow) : Type 0 where
  pub free : option_and_then proc_in (slice_get slots slot) ≡ None
  pub host_within : p.host < MOST_HOSTS
  pub within : IsWithin (find (λ s. s.sub == p.sub) subs) (sum_by (λ (s : SlotRow). cores_in p.sub s.proc) slots + p.cores)

-- where an attempt begins, it may
abbrev pub MayBegin : List SubRow → List SlotRow → ℕ → Option ProcRow → Type 0
MayBegin subs slots slot None = Unit {0}
MayBegin subs slots slot (Some p) = IsBeginning subs slots slot p

-- the row has the frame that stands in the slot, and where it has an attempt, that begins
pub record CanInstall (subs : List SubRow) (slots : List SlotRow) (slot : ℕ) (row : SlotRow) : Type 0 where
  pub keeps : KeepsFrame (slice_get slots slot) row
  pub begins : MayBegin subs slots slot row.proc

-- ---- jobs

-- the job keeps its limits, the farm doesn't refuse it, and it is placed where the farm places it
pub record IsPlacement (f : Farm) (placing : Placing) (spec : JobSpec) : Type 0 where
  pub limits : JobKeepsLimits spec
  pub accepted : job_refusal (lists_of f) spec ≡ None
  pub placed : placing ≡ placing_of (lists_of f) placing.show placing.limits spec
