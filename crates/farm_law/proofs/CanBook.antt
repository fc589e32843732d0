-- What a test for a booking says, part by part.
use Rattle.std.proofs.Common.{◌≡◌, ℕ, ◌+◌, ◌<◌, ◌≤◌, true, not, Some, refl, leb, ltb}
use Rattle.std.specs.List.{slice_get}
use Rattle.std.proofs.lemmas.Bool.{leb-true, ltb-true}
use Rattle.farm_types.specs.declared.rows.HostRow.{HostRow}
use Rattle.farm_types.specs.declared.rows.JobRow.{JobRow}
use Rattle.farm_types.specs.declared.rows.LayerRow.{LayerRow}
use Rattle.farm_types.specs.declared.rows.SubRow.{SubRow}
use Rattle.farm_types.specs.declared.slot_row.SlotRow.{SlotRow}
use Rattle.farm_types.specs.declared.slot_row.Frame.{Frame}
use Rattle.farm_types.specs.Farm.{Farm, sub_at, job_at, layer_at, sub_of}
use Rattle.farm_types.specs.Sums.{used_cores, used_memory, booked_in}
use Rattle.farm_types.specs.Depends.{is_open}
use Rattle.farm_types.specs.Booking.{is_waiting, is_ready, is_pending, is_up, in_facility, takes_frames, has_capacity, within_burst, within_limit, may_record}
use Rattle.farm_types.specs.Step.{new_proc, proc_of}
use Rattle.farm_types.proofs.Lists.{and_both, for_some_true}
use Rattle.farm_types.specs.declared.limits.TheConstants.{LAST_VERSION}

-- the rows that a booking of a slot's frame on a host reads
pub record Rows : Type 0 where
  pub slot : SlotRow
  pub frame : Frame
  pub job : JobRow
  pub layer : LayerRow
  pub host : HostRow
  pub sub : SubRow

-- these are the rows, and the booking may be recorded
pub record CanBook (f : Farm) (slot host : ℕ) (r : Rows) : Type 0 where
  pub slot_is : slice_get f.slots slot ≡ Some r.slot
  pub frame_is : r.slot.frame ≡ Some r.frame
  pub job_is : job_at f r.frame.job ≡ Some r.job
  pub layer_is : layer_at f r.frame.job r.frame.layer ≡ Some r.layer
  pub host_is : slice_get f.hosts host ≡ Some r.host
  pub sub_is : sub_at f (sub_of r.job.show r.host.alloc) ≡ Some r.sub
  pub waits : is_waiting r.frame.state ≡ true
  pub pending : is_pending r.job.state ≡ true
  pub version : r.slot.version < LAST_VERSION
  pub unblocked : is_open f slot ≡ true
  pub cores : used_cores f host + r.layer.cores ≤ r.host.cores
  pub memory : used_memory f host + r.layer.memory ≤ r.host.memory
  pub burst : booked_in f (sub_of r.job.show r.host.alloc) + r.layer.cores ≤ r.sub.burst
  pub limit : within_limit f r.layer ≡ true
  pub facility : in_facility f r.host.alloc r.job.facility ≡ true
  pub up : is_up r.host.state ≡ true

pub can_book : (f : Farm) (slot host : ℕ) → may_record f slot host ≡ true → (r : Rows) × CanBook f slot host r
can_book f slot host h0 =
    let s = for_some_true (slice_get f.slots slot) _ h0 in
    let frame = for_some_true s.0.frame _ s.2 in
    let job = for_some_true (job_at f frame.0.job) _ frame.2 in
    let layer = for_some_true (layer_at f frame.0.job frame.0.layer) _ job.2 in
    let host_row = for_some_true (slice_get f.hosts host) _ layer.2 in
    let place = host_row.2 in
    let h6 = and_both _ (within_limit f layer.0) place in
    let h5 = and_both _ (within_burst f (sub_of job.0.show host_row.0.alloc) layer.0) h6.0 in
    let h4 = and_both _ (has_capacity f host host_row.0 layer.0) h5.0 in
    let h3 = and_both _ (takes_frames host_row.0) h4.0 in
    let h2 = and_both _ (in_facility f host_row.0.alloc job.0.facility) h3.0 in
    let h1 = and_both (is_ready s.0.version frame.0 job.0) (is_open f slot) h2.0 in
    let ready3 = and_both _ (not job.0.paused) h1.0 in
    let ready2 = and_both _ (is_pending job.0.state) ready3.0 in
    let ready1 = and_both (is_waiting frame.0.state) (ltb s.0.version LAST_VERSION) ready2.0 in
    let fits = and_both (leb (used_cores f host + layer.0.cores) host_row.0.cores) (leb (used_memory f host + layer.0.memory) host_row.0.memory) h4.1 in
    let sub = for_some_true (sub_at f (sub_of job.0.show host_row.0.alloc)) _ h5.1 in (
      record { slot = s.0; frame = frame.0; job = job.0; layer = layer.0; host = host_row.0; sub = sub.0 },
      record {
        slot_is = s.1;
        frame_is = frame.1;
        job_is = job.1;
        layer_is = layer.1;
        host_is = host_row.1;
        sub_is = sub.1;
        waits = ready1.0;
        pending = ready2.1;
        version = ltb-true s.0.version LAST_VERSION ready1.1;
        unblocked = h1.1;
        cores = leb-true _ _ fits.0;
        memory = leb-true _ _ fits.1;
        burst = leb-true _ _ sub.2;
        limit = h6.1;
        facility = h2.1;
        up = (and_both (is_up host_row.0.state) _ h3.1).0;
      },
    )

-- the attempt that such a booking adds
pub new_proc_is : (f : Farm) (slot host moment : ℕ) (r : Rows) → CanBook f slot host r → new_proc f slot host moment ≡ Some (proc_of slot host moment r.slot r.job r.layer r.host)
new_proc_is f slot host moment r b = rw b.slot_is (rw b.frame_is (rw b.job_is (rw b.layer_is (rw b.host_is refl))))
