-- The parts of the tests of a frame's row that fits the rows before it.
use Rattle.std.proofs.Common.{◌≡◌, ◌<◌, ◌≤◌, ◌+◌, ◌&&◌, ℕ, true, not, eqb, leb, ltb, Some}
use Rattle.std.specs.Prelude.{slice_get, is_some}
use Rattle.std.specs.List.{list_any}
use Rattle.std.specs.Ordering.{int_eq}
use Rattle.std.proofs.lemmas.Bool.{leb-true, ltb-true}
use Rattle.farm_types.specs.declared.limits.TheConstants.{LAST_VERSION, MOST_RETRIES, SLOT_LIMIT}
use Rattle.farm_types.specs.declared.rows.HostRow.{HostRow}
use Rattle.farm_types.specs.declared.rows.JobRow.{JobRow}
use Rattle.farm_types.specs.declared.rows.LayerRow.{LayerRow}
use Rattle.farm_types.specs.Booking.{is_up}
use Rattle.farm_types.specs.Farm.{Farm, is_placed, job_at, layer_at, slot_from, sub_at, sub_of}
use Rattle.farm_types.specs.Sums.{used_cores, used_memory}
use Rattle.farm_types.proofs.Lists.{and_both, for_some_true}
use Rattle.farm_rows.specs.declared.frame_row.FrameRow.{FrameRow}
use Rattle.farm_rows.specs.declared.frame_row.StoredFrame.{StoredFrame}
use Rattle.farm_rows.specs.declared.frame_row.StoredState.TheVariants as stored
use Rattle.farm_rows.specs.Recovery.{attempt_fits, frame_fits, host_takes, numbers_at, position_of, slot_fits, taken_fits}

-- the host is up in that boot, the subscription is there, and the layer's amounts have room
pub record HostTakes (f : Farm) (boot host : ℕ) (job : JobRow) (layer : LayerRow) (on : HostRow) : Type 0 where
  pub up : (is_up on.state && eqb on.boot boot) ≡ true
  pub subscribed : is_some (sub_at f (sub_of job.show on.alloc)) ≡ true
  pub cores : used_cores f host + layer.cores ≤ on.cores
  pub memory : used_memory f host + layer.memory ≤ on.memory

pub takes_parts : (f : Farm) (boot host : ℕ) (job : JobRow) (layer : LayerRow) (on : HostRow) → host_takes f boot host job layer on ≡ true → HostTakes f boot host job layer on
takes_parts f boot host job layer on takes =
    let up = and_both (is_up on.state && eqb on.boot boot) _ takes in
    let sub = and_both (is_some (sub_at f (sub_of job.show on.alloc))) _ up.1 in
    let room = and_both (leb (used_cores f host + layer.cores) on.cores) _ sub.1 in
    record { up = up.0; subscribed = sub.0; cores = leb-true _ on.cores room.0; memory = leb-true _ on.memory room.1 }

-- a running frame's job, layer and host are there
pub record AttemptFits (f : Farm) (version : ℕ) (x : StoredFrame) (boot host since : ℕ) : Type 0 where
  pub versioned : 0 < version
  pub begun : since ≤ f.moment
  pub job : JobRow
  pub has_job : job_at f x.job ≡ Some job
  pub layer : LayerRow
  pub has_layer : layer_at f x.job x.layer ≡ Some layer
  pub on : HostRow
  pub has_host : slice_get f.hosts host ≡ Some on
  pub takes : host_takes f boot host job layer on ≡ true

pub attempt_parts : (f : Farm) (version : ℕ) (x : StoredFrame) (boot host since : ℕ) → attempt_fits f version x (stored.Running boot host since) ≡ true → AttemptFits f version x boot host since
attempt_parts f version x boot host since h =
    let timed = and_both (ltb 0 version) _ h in
    let placed = and_both (leb since f.moment) _ timed.1 in
    let job = for_some_true (job_at f x.job) _ placed.1 in
    let layer = for_some_true (layer_at f x.job x.layer) _ job.2 in
    let on = for_some_true (slice_get f.hosts host) _ layer.2 in
    record {
      versioned = ltb-true 0 version timed.0;
      begun = leb-true since f.moment placed.0;
      job = job.0;
      has_job = job.1;
      layer = layer.0;
      has_layer = layer.1;
      on = on.0;
      has_host = on.1;
      takes = on.2;
    }

-- the layer has the number, which no slot has
pub record FrameFits (f : Farm) (version : ℕ) (x : StoredFrame) : Type 0 where
  pub numbered : list_any (λ number. int_eq number x.number) (numbers_at f x.job x.layer) ≡ true
  pub apart : not (is_some (slot_from 0 (is_placed x.job x.layer (position_of f x)) f.slots)) ≡ true
  pub retries : leb x.retries MOST_RETRIES ≡ true
  pub attempt : attempt_fits f version x x.state ≡ true

pub frame_parts : (f : Farm) (version : ℕ) (x : StoredFrame) → frame_fits f version x ≡ true → FrameFits f version x
frame_parts f version x h =
    let numbered = and_both (list_any (λ number. int_eq number x.number) (numbers_at f x.job x.layer)) _ h in
    let apart = and_both (not (is_some (slot_from 0 (is_placed x.job x.layer (position_of f x)) f.slots))) _ numbered.1 in
    let retries = and_both (leb x.retries MOST_RETRIES) _ apart.1 in
    record { numbered = numbered.0; apart = apart.0; retries = retries.0; attempt = retries.1 }

pub record SlotFits (f : Farm) (r : FrameRow) : Type 0 where
  pub within : r.slot < SLOT_LIMIT
  pub version : leb r.version LAST_VERSION ≡ true
  pub taken : taken_fits f r.version r.frame ≡ true

pub slot_parts : (f : Farm) (r : FrameRow) → slot_fits f r ≡ true → SlotFits f r
slot_parts f r h =
    let within = and_both (ltb r.slot SLOT_LIMIT) _ h in
    let version = and_both (leb r.version LAST_VERSION) _ within.1 in
    record { within = ltb-true r.slot SLOT_LIMIT within.0; version = version.0; taken = version.1 }
