-- What is read of a farm where a claim isn't booked.
use Rattle.std.specs.Prelude.{ℕ, Option, None, Some, option_and_then, slice_get}
use Rattle.farm_types.specs.declared.rows.HostRow.{HostRow}
use Rattle.farm_types.specs.declared.rows.LimitRow.{LimitRow}
use Rattle.farm_types.specs.declared.rows.SubRow.{SubRow}
use Rattle.farm_types.specs.declared.states.HostState.{HostState}
use Rattle.farm_types.specs.declared.states.HostState.TheVariants as host_state
use Rattle.farm_types.specs.declared.states.LockState.{LockState}
use Rattle.farm_types.specs.declared.states.LockState.TheVariants as lock_state
use Rattle.farm_types.specs.Farm.{Farm, job_at, sub_at, sub_of}
use Rattle.farm_types.specs.Run.{limit_at}
use Rattle.farm_types.specs.Sums.{booked_in, running_in}

-- a host's state and lock; one that isn't there is down
abbrev pub state_in : Option HostRow → HostState
state_in None = host_state.Down
state_in (Some row) = row.state

abbrev pub lock_in : Option HostRow → LockState
lock_in None = lock_state.Unlocked
lock_in (Some row) = row.lock

abbrev pub state_at : Farm → ℕ → HostState
state_at f host = state_in (slice_get f.hosts host)

abbrev pub lock_at : Farm → ℕ → LockState
lock_at f host = lock_in (slice_get f.hosts host)

-- the subscription of the show of the slot's job to the host's allocation
abbrev pub sub_for : Farm → ℕ → ℕ → Option SubRow
sub_for f slot host =
    option_and_then (λ s. option_and_then (λ frame. option_and_then (λ job. option_and_then (λ row. sub_at f (sub_of job.show row.alloc))
    (slice_get f.hosts host)) (job_at f frame.job)) s.frame) (slice_get f.slots slot)

-- what is booked of it, and its burst: 0 where there is none
abbrev pub booked_by : Farm → Option SubRow → ℕ
booked_by f None = 0
booked_by f (Some s) = booked_in f s.sub

abbrev pub burst_by : Option SubRow → ℕ
burst_by None = 0
burst_by (Some s) = s.burst

-- the limit of the layer of the slot's frame, by its number
abbrev pub limit_for : Farm → ℕ → Option LimitRow
limit_for f slot = option_and_then (λ limit. slice_get f.limits limit) (limit_at f slot)

-- how many frames run in it, and how many may: 0 where there is none
abbrev pub running_by : Farm → Option ℕ → Option LimitRow → ℕ
running_by f None row = 0
running_by f (Some limit) None = 0
running_by f (Some limit) (Some row) = running_in f limit

abbrev pub most_by : Option LimitRow → ℕ
most_by None = 0
most_by (Some row) = row.most
