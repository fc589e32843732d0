-- A claim whose word runs ahead, and when its booking may be recorded.
use Rattle.std.specs.Prelude.{◌≡◌, ℕ, ◌+◌, ◌-◌, ◌<◌, ◌≤◌, ◌&&◌, Bool, true, not, slice_get, Option, None}
use Rattle.booking_reasons.specs.declared.not_booked.NotBooked.{NotBooked}
use Rattle.booking_reasons.specs.declared.not_booked.NotBooked.TheVariants as reason
use Rattle.booking_reasons.specs.WhyNot.{unless, why_not_record}
use Rattle.farm_types.specs.Booking.{may_record, suits, takes_frames, within_burst, within_limit}
use Rattle.farm_types.specs.Farm.{Farm, for_some, job_at, layer_at, sub_of}
use Rattle.farm_types.specs.Sums.{used_cores, used_memory}
use Rattle.booking_rule.specs.declared.hold.Claim.{Claim}
use Rattle.booking_rule.specs.declared.view.View.{View}
use Rattle.booking_rule.specs.Kept.{farm_in}
use Rattle.booking_rule.specs.Link.{host_cores, host_memory, stand_at}
use Rattle.booking_rule.specs.Totals.{sum_to}
use Rattle.recording_core.specs.Machine.{cores_used, memory_used, stand_recorded}
use Rattle.recording_core.specs.Records.{records_in}

-- The claim's frame is recorded as waiting at the version before, with its cores; beside what the frames use that are
-- recorded as running on its host, the frame is within the recorded size; and the slot suits the host.
pub record CanBook (v : View) (c : Claim) : Type 0 where
  pub waits : (stand_recorded v c.slot).phase ≡ 1
  pub version : c.version ≡ (stand_recorded v c.slot).version + 1
  pub below : c.version < 16777216
  pub cores : c.cores ≡ (stand_recorded v c.slot).cores
  pub cores_left : sum_to 65536 (λ slot. cores_used c.host (stand_recorded v slot)) + c.cores ≤ (records_in v).cores c.host
  pub memory_left : sum_to 65536 (λ slot. memory_used c.host (stand_recorded v slot)) + (stand_recorded v c.slot).memory ≤ (records_in v).memory c.host
  pub sub : ℕ
  pub suited : suits (farm_in v) c.slot (c.version - 1) c.host sub ≡ true

-- ---- in the farm

-- the same of a farm, whose words all show it
pub record HasPlace (f : Farm) (slot host : ℕ) : Type 0 where
  pub waits : (stand_at f slot).phase ≡ 1
  pub below : (stand_at f slot).version < 16777215
  pub cores_left : used_cores f host + (stand_at f slot).cores ≤ host_cores f host
  pub memory_left : used_memory f host + (stand_at f slot).memory ≤ host_memory f host
  pub sub : ℕ
  pub suited : suits f slot (stand_at f slot).version host sub ≡ true

-- the slot's job is paused
abbrev pub paused_at : Farm → ℕ → Bool
paused_at f slot = for_some (slice_get f.slots slot) (λ s. for_some s.frame (λ frame. for_some (job_at f frame.job) (λ job. job.paused)))

-- the host is up and open
abbrev pub takes_at : Farm → ℕ → Bool
takes_at f host = for_some (slice_get f.hosts host) takes_frames

-- the subscription of the slot's show and the host's allocation has burst for the slot's layer
abbrev pub burst_left : Farm → ℕ → ℕ → Bool
burst_left f slot host =
    for_some (slice_get f.slots slot) (λ s. for_some s.frame (λ frame. for_some (job_at f frame.job) (λ job.
    for_some (layer_at f frame.job frame.layer) (λ layer. for_some (slice_get f.hosts host) (λ row. within_burst f (sub_of job.show row.alloc) layer)))))

-- the limit of the slot's layer, if it has one, lets one more frame run
abbrev pub place_left : Farm → ℕ → Bool
place_left f slot =
    for_some (slice_get f.slots slot) (λ s. for_some s.frame (λ frame. for_some (layer_at f frame.job frame.layer) (λ layer. within_limit f layer)))

-- what may still stand against a booking that has its place: all that entries change without a frame's version
abbrev pub IsAllowed : Farm → ℕ → ℕ → Type 0
IsAllowed f slot host =
    may_record f slot host ≡ (not (paused_at f slot) && (takes_at f host && (burst_left f slot host && place_left f slot)))

-- the first of these that does, in the order of all reasons
abbrev pub why_left : Farm → ℕ → ℕ → Option NotBooked
why_left f slot host =
    unless (not (paused_at f slot)) reason.JobPaused
    (unless (takes_at f host) reason.HostClosed
    (unless (burst_left f slot host) reason.PastBurst
    (unless (place_left f slot) reason.AtLimit None)))

abbrev pub IsWhyLeft : Farm → ℕ → ℕ → Type 0
IsWhyLeft f slot host = why_not_record f slot host ≡ why_left f slot host
