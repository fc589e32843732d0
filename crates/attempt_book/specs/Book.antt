-- What the book of attempts holds and answers.
use Rattle.std.specs.Prelude.{ℕ, ◌≡◌, ◌==◌, ◌+◌, ◌<◌, List, [], ◌∷◌, sum_by, drop, find, Option, None, Some, option_and_then, slice_get, if◌then◌else◌}
use Rattle.farm_types.specs.declared.attempt.ProcRow.{ProcRow}
use Rattle.farm_types.specs.declared.rows.SubRow.{SubRow}
use Rattle.farm_types.specs.Farm.{for_some}
use Rattle.farm_types.specs.Sums.{cores_on, memory_on, cores_in}
use Rattle.farm_types.specs.declared.limits.TheConstants.{MOST_HOSTS}
use Rattle.sub_ledger.specs.Ledger.{IsWithin}

-- the subscriptions, and for each slot up to the last that was ever used its live attempt, if it has one
pub record AttemptLists : Type 0 where
  pub subs : List SubRow
  pub procs : List (Option ProcRow)

-- no subscriptions and no slots
abbrev pub no_attempts : AttemptLists
no_attempts = record { subs = []; procs = [] }

abbrev pub flat : Option (Option ProcRow) → Option ProcRow
flat None = None
flat (Some o) = o

-- the live attempt of a slot
abbrev pub live_in : List (Option ProcRow) → ℕ → Option ProcRow
live_in procs slot = flat (slice_get procs slot)

-- what the live attempts use of a host, and of a subscription
abbrev pub cores_used : List (Option ProcRow) → ℕ → ℕ
cores_used procs host = sum_by (cores_on host) procs

abbrev pub memory_used : List (Option ProcRow) → ℕ → ℕ
memory_used procs host = sum_by (memory_on host) procs

abbrev pub cores_booked : List (Option ProcRow) → ℕ → ℕ
cores_booked procs sub = sum_by (cores_in sub) procs

-- ---- a host's own attempts

-- the first slot with a live attempt on the host, where the attempts are those of the slots from a place on
abbrev pub first_in : ℕ → ℕ → List (Option ProcRow) → Option ℕ
first_in host place [] = None
first_in host place (o ∷ os) = if for_some o (λ (p : ProcRow). p.host == host) then Some place else first_in host (place + 1) os

-- the first slot with a live attempt on the host, at a slot or after it
abbrev pub first_on : List (Option ProcRow) → ℕ → ℕ → Option ℕ
first_on procs host from = first_in host from (drop from procs)

-- the next slot with a live attempt on the host of this slot's attempt
abbrev pub next_on : List (Option ProcRow) → ℕ → Option ℕ
next_on procs slot = option_and_then (λ (p : ProcRow). first_on procs p.host (slot + 1)) (live_in procs slot)

-- ---- conditions

-- The slot is there and has no live attempt; the host's number is below the most; and the subscription is there, with the attempt's cores
-- within its burst.
pub record CanBegin (b : AttemptLists) (slot : ℕ) (p : ProcRow) : Type 0 where
  pub free : slice_get b.procs slot ≡ Some None
  pub host_within : p.host < MOST_HOSTS
  pub within : IsWithin (find (λ s. s.sub == p.sub) b.subs) (cores_booked b.procs p.sub + p.cores)
