-- What stays of a farm's rows along runs, in which jobs finish: slots, hosts and allocations at their places, and the pending job of a frame while its
-- slot keeps its version.
use Rattle.std.proofs.Common.{◌≡◌, ℕ, ◌<◌, ◌≤◌, true, Some, sym, subst, ◌∙◌, arith, eqb, List}
use Rattle.std.specs.List.{find, slice_get}
use Rattle.std.proofs.lemmas.Option.{same_Some}
use Rattle.farm_types.specs.declared.limits.TheConstants.{LAST_VERSION}
use Rattle.farm_types.specs.declared.rows.JobRow.{JobRow}
use Rattle.farm_types.specs.declared.slot_row.SlotRow.{SlotRow}
use Rattle.farm_types.specs.Booking.{is_pending}
use Rattle.farm_types.specs.Farm.{Farm}
use Rattle.farm_types.specs.Run.{HasItsHosts, IsSound}
use Rattle.farm_types.proofs.Stays.{EachStays, EachStays-then}
use Rattle.farm_law.proofs.KeepsLaw.{KeepsLaw, law_same}
use Rattle.farm_law.proofs.RowsStay.{AllocStays, HostStays, RowsStay, SlotStays, frame_job, slot_then}

-- While a slot keeps its version, below the last one, a pending job of its frame stays so, of its show and facility.
abbrev pub JobsHeld : Farm → Farm → Type 0
JobsHeld f g =
    (i : ℕ) (s t : SlotRow) → slice_get f.slots i ≡ Some s → slice_get g.slots i ≡ Some t → s.version ≡ t.version → s.version < LAST_VERSION
    → (n : ℕ) (job : JobRow) → frame_job s.frame ≡ Some n → find (λ (j : JobRow). eqb j.job n) f.jobs ≡ Some job → is_pending job.state ≡ true
    → (now : JobRow) × (find (λ (j : JobRow). eqb j.job n) g.jobs ≡ Some now) × (now.show ≡ job.show) × (now.facility ≡ job.facility) × (is_pending now.state ≡ true)

pub record RowsHold (f g : Farm) : Type 0 where
  pub slots : EachStays SlotStays f.slots g.slots
  pub hosts : EachStays HostStays f.hosts g.hosts
  pub allocs : EachStays AllocStays f.allocs g.allocs
  pub jobs : JobsHeld f g

-- rows that stay hold
hold_of_rows : (f g : Farm) → RowsStay f g → RowsHold f g
hold_of_rows f g rows =
    record {
      slots = rows.slots;
      hosts = rows.hosts;
      allocs = rows.allocs;
      jobs = λ i s t at_s at_t same below n job has found pending. rows.jobs n job found pending;
    }

same_at : (rows : List SlotRow) (i : ℕ) (s t : SlotRow) → slice_get rows i ≡ Some s → slice_get rows i ≡ Some t → s ≡ t
same_at rows i s t first second = same_Some s t (sym first ∙ second)

jobs_then : (f g k : Farm) → EachStays SlotStays f.slots g.slots → EachStays SlotStays g.slots k.slots → JobsHeld f g → JobsHeld g k → JobsHeld f k
jobs_then f g k stays later first second i s t at_s at_t same below n job has found pending =
    let mid = stays i s at_s in
    let end = later i mid.0 mid.1 in
    let is_end = same_at k.slots i end.0 t end.1 at_t in
    let up : mid.0.version ≤ t.version = subst (λ (x : SlotRow). mid.0.version ≤ x.version) is_end end.2.version in
    let as_first : s.version ≡ mid.0.version = omega (arith, mid.2.version, up, same) in
    let as_second : mid.0.version ≡ t.version = omega (arith, as_first, same) in
    let now = first i s mid.0 at_s mid.1 as_first below n job has found pending in
    let last = second i mid.0 t mid.1 at_t as_second (subst (λ (v : ℕ). v < LAST_VERSION) as_first below) n now.0 (mid.2.job as_first below n has) now.1 now.4 in
    (last.0, last.1, last.2 ∙ now.2, last.3 ∙ now.3, last.4)

hold_then : (f g k : Farm) → RowsHold f g → RowsHold g k → RowsHold f k
hold_then f g k first second =
    record {
      slots = EachStays-then SlotStays slot_then f.slots g.slots k.slots first.slots second.slots;
      hosts = EachStays-then HostStays (λ x y z p q. q ∙ p) f.hosts g.hosts k.hosts first.hosts second.hosts;
      allocs = EachStays-then AllocStays (λ x y z p q. q ∙ p) f.allocs g.allocs k.allocs first.allocs second.allocs;
      jobs = jobs_then f g k first.slots second.slots first.jobs second.jobs;
    }

-- A part of a run from the first farm to the second keeps the law.
pub record KeepsRun (f g : Farm) : Type 0 where
  pub sound : IsSound f → HasItsHosts f → IsSound g
  pub hosts : IsSound f → HasItsHosts f → HasItsHosts g
  pub rows : RowsHold f g

pub run_of_law : (f g : Farm) → KeepsLaw f g → KeepsRun f g
run_of_law f g law = record { sound = law.sound; hosts = law.hosts; rows = hold_of_rows f g law.rows }

pub run_same : (f : Farm) → KeepsRun f f
run_same f = run_of_law f f (law_same f)

pub run_then : (f g k : Farm) → KeepsRun f g → KeepsRun g k → KeepsRun f k
run_then f g k first second =
    record {
      sound = λ ok there. second.sound (first.sound ok there) (first.hosts ok there);
      hosts = λ ok there. second.hosts (first.sound ok there) (first.hosts ok there);
      rows = hold_then f g k first.rows second.rows;
    }
