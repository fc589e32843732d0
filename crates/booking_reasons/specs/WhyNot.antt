-- Why a booking may not be recorded: the first part of the rules that fails.
use Rattle.std.specs.Prelude.{ℕ, Bool, true, false, not, Option, None, Some, nat_lt, slice_get}
use Rattle.farm_types.specs.declared.limits.TheConstants.{LAST_VERSION}
use Rattle.booking_reasons.specs.declared.not_booked.NotBooked.{NotBooked}
use Rattle.booking_reasons.specs.declared.not_booked.NotBooked.TheVariants as reason
use Rattle.farm_types.specs.declared.rows.HostRow.{HostRow}
use Rattle.farm_types.specs.declared.rows.JobRow.{JobRow}
use Rattle.farm_types.specs.declared.rows.LayerRow.{LayerRow}
use Rattle.farm_types.specs.Booking.{has_capacity, in_facility, is_pending, is_waiting, takes_frames, within_burst, within_limit}
use Rattle.farm_types.specs.Depends.{is_open}
use Rattle.farm_types.specs.Farm.{Farm, job_at, layer_at, sub_of}

-- the reason where the test fails, else the next one
abbrev pub unless : Bool → NotBooked → Option NotBooked → Option NotBooked
unless true why next = next
unless false why next = Some why

-- the reason where there is nothing, else that of what there is
abbrev pub if_there : {X : Type 0} → Option X → NotBooked → (X → Option NotBooked) → Option NotBooked
if_there None why next = Some why
if_there (Some x) why next = next x

-- why the frame of that job and layer, which waits, may not be placed on the host (`may_place`)
abbrev pub why_not_place : Farm → ℕ → ℕ → ℕ → JobRow → LayerRow → HostRow → Option NotBooked
why_not_place f slot host version job layer row =
    unless (nat_lt version LAST_VERSION) reason.VersionSpent
    (unless (is_pending job.state) reason.JobFinished
    (unless (not job.paused) reason.JobPaused
    (unless (is_open f slot) reason.NotOpen
    (unless (in_facility f row.alloc job.facility) reason.OtherFacility
    (unless (takes_frames row) reason.HostClosed
    (unless (has_capacity f host row layer) reason.NoCapacity
    (unless (within_burst f (sub_of job.show row.alloc) layer) reason.PastBurst
    (unless (within_limit f layer) reason.AtLimit None))))))))

-- why a booking of the slot's frame on the host may not be recorded (`may_record`): a frame that doesn't wait is seen first
abbrev pub why_not_record : Farm → ℕ → ℕ → Option NotBooked
why_not_record f slot host =
    if_there (slice_get f.slots slot) reason.NoFrame (λ s. if_there s.frame reason.NoFrame (λ frame. unless (is_waiting frame.state) reason.NotWaiting
    (if_there (job_at f frame.job) reason.NoJob (λ job. if_there (layer_at f frame.job frame.layer) reason.NoLayer (λ layer.
    if_there (slice_get f.hosts host) reason.NoHost (λ row. why_not_place f slot host s.version job layer row))))))
