-- When a frame may be booked on a host.
use Rattle.std.specs.Prelude.{ℕ, ◌==◌, ◌&&◌, ◌+◌, ◌∷◌, [], ◌++◌, Bool, true, false, not, List, Option, None, Some, nat_lt, nat_le, slice_get, bytes_eq}
use Rattle.std.specs.List.{list_any}
use Rattle.farm_types.specs.declared.rows.AllocRow.{AllocRow}
use Rattle.farm_types.specs.declared.rows.HostRow.{HostRow}
use Rattle.farm_types.specs.declared.rows.JobRow.{JobRow}
use Rattle.farm_types.specs.declared.rows.LayerRow.{LayerRow}
use Rattle.farm_types.specs.declared.slot_row.Frame.{Frame}
use Rattle.farm_types.specs.declared.slot_row.SlotRow.{SlotRow}
use Rattle.farm_types.specs.declared.states.FrameState.{FrameState}
use Rattle.farm_types.specs.declared.states.FrameState.TheVariants as frame_state
use Rattle.farm_types.specs.declared.states.JobState.{JobState}
use Rattle.farm_types.specs.declared.states.JobState.TheVariants as job_state
use Rattle.farm_types.specs.declared.states.HostState.{HostState}
use Rattle.farm_types.specs.declared.states.HostState.TheVariants as host_state
use Rattle.farm_types.specs.declared.states.LockState.{LockState}
use Rattle.farm_types.specs.declared.states.LockState.TheVariants as lock_state
use Rattle.farm_types.specs.Farm.{Farm, for_any, for_some, sub_at, job_at, layer_at, sub_of}
use Rattle.farm_types.specs.Sums.{used_cores, used_memory, booked_in, running_in}
use Rattle.farm_types.specs.Depends.{is_open}
use Rattle.farm_types.specs.declared.limits.TheConstants.{LAST_VERSION}

abbrev pub is_waiting : FrameState → Bool
is_waiting frame_state.Waiting = true
is_waiting _ = false

abbrev pub is_pending : JobState → Bool
is_pending job_state.Pending = true
is_pending job_state.Finished = false

abbrev pub is_up : HostState → Bool
is_up host_state.Up = true
is_up host_state.Down = false

abbrev pub is_unlocked : LockState → Bool
is_unlocked lock_state.Unlocked = true
is_unlocked _ = false

-- the frame waits below the last version, and its job is pending and not paused
abbrev pub is_ready : ℕ → Frame → JobRow → Bool
is_ready version frame job = is_waiting frame.state && nat_lt version LAST_VERSION && is_pending job.state && not job.paused

-- the job's facility is that of the host's allocation
abbrev pub in_facility : Farm → ℕ → List ℕ → Bool
in_facility f alloc facility = for_some (slice_get f.allocs alloc) (λ row. bytes_eq row.facility facility)

-- the host is up and open
abbrev pub takes_frames : HostRow → Bool
takes_frames row = is_up row.state && is_unlocked row.lock

-- the host has the capacity for the layer's amounts beside what its live attempts use
abbrev pub has_capacity : Farm → ℕ → HostRow → LayerRow → Bool
has_capacity f host row layer = nat_le (used_cores f host + layer.cores) row.cores && nat_le (used_memory f host + layer.memory) row.memory

-- the subscription is there, and its booked cores with the layer's are within its burst
abbrev pub within_burst : Farm → ℕ → LayerRow → Bool
within_burst f sub layer = for_some (sub_at f sub) (λ s. nat_le (booked_in f sub + layer.cores) s.burst)

-- where the layer has a limit, it is there, and fewer of its frames run than may
abbrev pub within_limit : Farm → LayerRow → Bool
within_limit f layer = for_any layer.limit (λ limit. for_some (slice_get f.limits limit) (λ row. nat_lt (running_in f limit) row.most))

-- whether the frame of that job and layer may be booked on the host
abbrev pub may_place : Farm → ℕ → ℕ → ℕ → Frame → JobRow → LayerRow → HostRow → Bool
may_place f slot host version frame job layer row =
    is_ready version frame job && is_open f slot && in_facility f row.alloc job.facility && takes_frames row && has_capacity f host row layer
    && within_burst f (sub_of job.show row.alloc) layer && within_limit f layer

-- whether a booking of the slot's frame on the host may be recorded
abbrev pub may_record : Farm → ℕ → ℕ → Bool
may_record f slot host =
    for_some (slice_get f.slots slot) (λ s. for_some s.frame (λ frame. for_some (job_at f frame.job) (λ job.
    for_some (layer_at f frame.job frame.layer) (λ layer. for_some (slice_get f.hosts host) (λ row.
    may_place f slot host s.version frame job layer row)))))

-- a host's tags are its own and its allocation's
abbrev pub tags_of : HostRow → AllocRow → List (List ℕ)
tags_of row allocation = row.tags ++ allocation.tag ∷ []

-- two lists of tags share a word
abbrev pub share_tag : List (List ℕ) → List (List ℕ) → Bool
share_tag xs ys = list_any (λ x. list_any (λ y. bytes_eq x y) ys) xs

-- the tags of the slot's layer and those of the host share a word
abbrev pub tags_match : Farm → ℕ → ℕ → Bool
tags_match f slot host =
    for_some (slice_get f.slots slot) (λ s. for_some s.frame (λ frame. for_some (layer_at f frame.job frame.layer) (λ layer.
    for_some (slice_get f.hosts host) (λ row. for_some (slice_get f.allocs row.alloc) (λ allocation. share_tag layer.tags (tags_of row allocation))))))

-- whether the slot's frame may be booked on the host
abbrev pub may_book : Farm → ℕ → ℕ → Bool
may_book f slot host = may_record f slot host && tags_match f slot host

-- The slot has a frame of that version and of a pending job, the job's facility is that of the host's allocation, and the subscription is of the
-- job's show and that allocation.
abbrev pub suits : Farm → ℕ → ℕ → ℕ → ℕ → Bool
suits f slot version host sub =
    for_some (slice_get f.slots slot) (λ s. s.version == version && for_some s.frame (λ frame. for_some (job_at f frame.job) (λ job.
    is_pending job.state && for_some (slice_get f.hosts host) (λ row. in_facility f row.alloc job.facility && sub_of job.show row.alloc == sub))))

abbrev pub version_of : Option SlotRow → ℕ
version_of None = 0
version_of (Some s) = s.version

-- the recorded version of a slot, 0 where it was never used
abbrev pub version_at : Farm → ℕ → ℕ
version_at f slot = version_of (slice_get f.slots slot)
