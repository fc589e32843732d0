-- A reason why a booking may not be recorded is there exactly where it may not be.
use Rattle.std.proofs.Common.{◌≡◌, ℕ, Bool, true, false, not, ◌&&◌, Option, None, Some, refl, sym}
use Rattle.std.specs.Prelude.{is_none, nat_lt, slice_get}
use Rattle.farm_types.specs.declared.limits.TheConstants.{LAST_VERSION}
use Rattle.booking_reasons.specs.declared.not_booked.NotBooked.{NotBooked}
use Rattle.booking_reasons.specs.declared.not_booked.NotBooked.TheVariants as reason
use Rattle.farm_types.specs.declared.rows.HostRow.{HostRow}
use Rattle.farm_types.specs.declared.rows.JobRow.{JobRow}
use Rattle.farm_types.specs.declared.rows.LayerRow.{LayerRow}
use Rattle.farm_types.specs.declared.slot_row.Frame.{Frame}
use Rattle.farm_types.specs.Booking.{has_capacity, in_facility, is_pending, is_waiting, may_record, takes_frames, within_burst, within_limit}
use Rattle.farm_types.specs.Depends.{is_open}
use Rattle.farm_types.specs.Farm.{Farm, for_some, job_at, layer_at, sub_of}
use Rattle.booking_reasons.specs.WhyNot.{if_there, unless, why_not_place, why_not_record}

-- ---- what there is

there_same : {X : Type 0} (o : Option X) (why : NotBooked) (next : X → Option NotBooked) (test : X → Bool) → ((x : X) → is_none (next x) ≡ test x)
    → is_none (if_there o why next) ≡ for_some o test
there_same None why next test same = refl
there_same (Some x) why next test same = same x

none_passes : {X : Type 0} (o : Option X) (test : X → Bool) → ((x : X) → test x ≡ false) → for_some o test ≡ false
none_passes None test fails = refl
none_passes (Some x) test fails = fails x

-- ---- the tests of a place

-- all of them hold where there is no reason
all_hold : (a b c d e g h k m : Bool) (whyA whyB whyC whyD whyE whyG whyH whyK whyM : NotBooked)
    → is_none (unless a whyA (unless b whyB (unless c whyC (unless d whyD (unless e whyE (unless g whyG (unless h whyH (unless k whyK (unless m whyM None)))))))))
    ≡ (((((((((true && a) && b) && c) && d) && e) && g) && h) && k) && m)
all_hold false b c d e g h k m _ _ _ _ _ _ _ _ _ = refl
all_hold true false c d e g h k m _ _ _ _ _ _ _ _ _ = refl
all_hold true true false d e g h k m _ _ _ _ _ _ _ _ _ = refl
all_hold true true true false e g h k m _ _ _ _ _ _ _ _ _ = refl
all_hold true true true true false g h k m _ _ _ _ _ _ _ _ _ = refl
all_hold true true true true true false h k m _ _ _ _ _ _ _ _ _ = refl
all_hold true true true true true true false k m _ _ _ _ _ _ _ _ _ = refl
all_hold true true true true true true true false m _ _ _ _ _ _ _ _ _ = refl
all_hold true true true true true true true true false _ _ _ _ _ _ _ _ _ = refl
all_hold true true true true true true true true true _ _ _ _ _ _ _ _ _ = refl

-- whether the frame may be placed, by whether it waits
abbrev placed_if : Bool → Farm → ℕ → ℕ → ℕ → JobRow → LayerRow → HostRow → Bool
placed_if waits f slot host version job layer row =
    ((((((((waits && nat_lt version LAST_VERSION) && is_pending job.state) && not job.paused) && is_open f slot) && in_facility f row.alloc job.facility) && takes_frames row)
    && has_capacity f host row layer) && within_burst f (sub_of job.show row.alloc) layer) && within_limit f layer

module _ (f : Farm) (slot host : ℕ) where
  place_same : (version : ℕ) (job : JobRow) (layer : LayerRow) (row : HostRow)
      → is_none (why_not_place f slot host version job layer row) ≡ placed_if true f slot host version job layer row
  place_same version job layer row =
      all_hold (nat_lt version LAST_VERSION) (is_pending job.state) (not job.paused) (is_open f slot) (in_facility f row.alloc job.facility) (takes_frames row)
      (has_capacity f host row layer) (within_burst f (sub_of job.show row.alloc) layer) (within_limit f layer)
      reason.VersionSpent reason.JobFinished reason.JobPaused reason.NotOpen reason.OtherFacility reason.HostClosed reason.NoCapacity reason.PastBurst reason.AtLimit

  -- the frame with its job, layer and host may be placed, by whether it waits
  abbrev joined_if : Bool → ℕ → Frame → Bool
  joined_if waits version frame =
      for_some (job_at f frame.job) (λ job. for_some (layer_at f frame.job frame.layer) (λ layer. for_some (slice_get f.hosts host) (λ row.
      placed_if waits f slot host version job layer row)))

  frame_same : (version : ℕ) (frame : Frame) (waits : Bool)
      → is_none (unless waits reason.NotWaiting (if_there (job_at f frame.job) reason.NoJob (λ job. if_there (layer_at f frame.job frame.layer) reason.NoLayer (λ layer.
      if_there (slice_get f.hosts host) reason.NoHost (λ row. why_not_place f slot host version job layer row))))) ≡ joined_if waits version frame
  frame_same version frame true =
      there_same (job_at f frame.job) _ _ _ (λ job. there_same (layer_at f frame.job frame.layer) _ _ _ (λ layer. there_same (slice_get f.hosts host) _ _ _ (λ row.
      place_same version job layer row)))
  frame_same version frame false =
      sym (none_passes (job_at f frame.job) _ (λ job. none_passes (layer_at f frame.job frame.layer) _ (λ layer. none_passes (slice_get f.hosts host) _ (λ row. refl))))

  -- ---- bookings

  pub record_same : is_none (why_not_record f slot host) ≡ may_record f slot host
  record_same = there_same (slice_get f.slots slot) _ _ _ (λ s. there_same s.frame _ _ _ (λ frame. frame_same s.version frame (is_waiting frame.state)))
