-- What stays of a farm's rows along an entry: slots, hosts and allocations at their places, and pending jobs under their numbers.
use Rattle.std.proofs.Common.{◌≡◌, ℕ, ◌<◌, ◌≤◌, true, List, Option, Some, None, refl, sym, subst, ◌∙◌, arith, option_map, eqb}
use Rattle.std.specs.List.{find}
use Rattle.farm_types.specs.declared.limits.TheConstants.{LAST_VERSION}
use Rattle.farm_types.specs.declared.rows.AllocRow.{AllocRow}
use Rattle.farm_types.specs.declared.rows.HostRow.{HostRow}
use Rattle.farm_types.specs.declared.rows.JobRow.{JobRow}
use Rattle.farm_types.specs.declared.slot_row.Frame.{Frame}
use Rattle.farm_types.specs.declared.slot_row.SlotRow.{SlotRow}
use Rattle.farm_types.specs.Booking.{is_pending}
use Rattle.farm_types.specs.Farm.{Farm}
use Rattle.farm_types.proofs.Stays.{EachStays, EachStays-same, EachStays-then}

abbrev pub frame_job : Option Frame → Option ℕ
frame_job frame = option_map (λ (x : Frame). x.job) frame

-- A slot's version never falls. While it stays, a slot without an attempt gets none, and below the last version the frame's job stays.
pub record SlotStays (old new : SlotRow) : Type 0 where
  pub version : old.version ≤ new.version
  pub proc : old.version ≡ new.version → old.proc ≡ None → new.proc ≡ None
  pub job : old.version ≡ new.version → old.version < LAST_VERSION → (n : ℕ) → frame_job old.frame ≡ Some n → frame_job new.frame ≡ Some n

abbrev pub HostStays : HostRow → HostRow → Type 0
HostStays old new = new.alloc ≡ old.alloc

abbrev pub AllocStays : AllocRow → AllocRow → Type 0
AllocStays old new = new.facility ≡ old.facility

-- a job that is pending stays so, of its show and facility
abbrev pub JobsStay : List JobRow → List JobRow → Type 0
JobsStay old new =
    (n : ℕ) (job : JobRow) → find (λ (j : JobRow). eqb j.job n) old ≡ Some job → is_pending job.state ≡ true
    → (now : JobRow) × (find (λ (j : JobRow). eqb j.job n) new ≡ Some now) × (now.show ≡ job.show) × (now.facility ≡ job.facility) × (is_pending now.state ≡ true)

pub record RowsStay (f g : Farm) : Type 0 where
  pub slots : EachStays SlotStays f.slots g.slots
  pub hosts : EachStays HostStays f.hosts g.hosts
  pub allocs : EachStays AllocStays f.allocs g.allocs
  pub jobs : JobsStay f.jobs g.jobs

-- ---- the same rows

pub slot_same : (s : SlotRow) → SlotStays s s
slot_same s = record { version = omega arith; proc = λ e none. none; job = λ e below n has. has }

pub slots_same : (slots : List SlotRow) → EachStays SlotStays slots slots
slots_same slots = EachStays-same SlotStays slot_same slots

pub hosts_same : (hosts : List HostRow) → EachStays HostStays hosts hosts
hosts_same hosts = EachStays-same HostStays (λ row. refl) hosts

pub allocs_same : (allocs : List AllocRow) → EachStays AllocStays allocs allocs
allocs_same allocs = EachStays-same AllocStays (λ row. refl) allocs

pub jobs_same : (jobs : List JobRow) → JobsStay jobs jobs
jobs_same jobs n job at pending = (job, at, refl, refl, pending)

-- ---- one after the other

pub slot_then : (x y z : SlotRow) → SlotStays x y → SlotStays y z → SlotStays x z
slot_then x y z first second =
    record {
      version = omega (arith, first.version, second.version);
      proc = λ e none.
          let same : x.version ≡ y.version = omega (arith, first.version, second.version, e) in
          second.proc (sym same ∙ e) (first.proc same none);
      job = λ e below n has.
          let same : x.version ≡ y.version = omega (arith, first.version, second.version, e) in
          second.job (sym same ∙ e) (subst (λ (v : ℕ). v < LAST_VERSION) same below) n (first.job same below n has);
    }

jobs_then : (xs ys zs : List JobRow) → JobsStay xs ys → JobsStay ys zs → JobsStay xs zs
jobs_then xs ys zs first second n job at pending =
    let y = first n job at pending in
    let z = second n y.0 y.1 y.4 in
    (z.0, z.1, z.2 ∙ y.2, z.3 ∙ y.3, z.4)

pub rows_then : (f g k : Farm) → RowsStay f g → RowsStay g k → RowsStay f k
rows_then f g k first second =
    record {
      slots = EachStays-then SlotStays slot_then f.slots g.slots k.slots first.slots second.slots;
      hosts = EachStays-then HostStays (λ x y z p q. q ∙ p) f.hosts g.hosts k.hosts first.hosts second.hosts;
      allocs = EachStays-then AllocStays (λ x y z p q. q ∙ p) f.allocs g.allocs k.allocs first.allocs second.allocs;
      jobs = jobs_then f.jobs g.jobs k.jobs first.jobs second.jobs;
    }
