-- When a booking that has its place may be recorded.
use Rattle.std.proofs.Common.{◌≡◌, ℕ, ◌+◌, ◌-◌, ◌<◌, ◌≤◌, Bool, true, false, not, if◌then◌else◌, ◌==◌, ◌&&◌, ◌||◌, [], sym, refl, ap, ◌∙◌, subst, arith, inl}
use Rattle.std.specs.Prelude.{Option, Some, None, nat_le, nat_lt, slice_get}
use Rattle.std.proofs.lemmas.Bool.Decides.{nat_tests}
use Rattle.farm_types.specs.declared.rows.HostRow.{HostRow}
use Rattle.farm_types.specs.declared.limits.TheConstants.{LAST_VERSION}
use Rattle.farm_types.specs.declared.slot_row.Frame.{Frame}
use Rattle.farm_types.specs.Booking.{has_capacity, in_facility, is_pending, is_ready, is_waiting, may_place, may_record, suits, takes_frames, within_burst, within_limit}
use Rattle.farm_types.specs.DependActs.{is_running}
use Rattle.farm_types.specs.Depends.{is_open}
use Rattle.farm_types.specs.Farm.{Farm, for_some, sub_of}
use Rattle.farm_types.specs.Kept.{IsKeptFarm}
use Rattle.farm_types.specs.Sums.{used_cores, used_memory}
use Rattle.farm_types.proofs.Lists.{and_both, for_some_true}
use Rattle.booking_rule.specs.declared.desk.Desk.{Desk}
use Rattle.booking_rule.specs.declared.hold.Claim.{Claim}
use Rattle.booking_rule.specs.declared.view.View.{View}
use Rattle.booking_rule.specs.Kept.{farm_in, no_desk}
use Rattle.booking_rule.specs.Link.{host_cores, host_memory, of_host, opening_of, recorded_in, stand_at}
use Rattle.booking_rule.specs.Recorded.{Stand}
use Rattle.booking_rule.specs.Rule.{is_booked}
use Rattle.booking_rule.specs.Totals.{sum_to}
use Rattle.booking_rule.proofs.Moves.{same_not}
use Rattle.booking_rule.proofs.Says.{none_setup}
use Rattle.booking_rule.proofs.Sums.{sum_to-same}
use Rattle.entry_law.specs.Used.{UsesAreShown}
use Rattle.entry_law.proofs.FrameRows.{FrameRows, frame_rows}
use Rattle.entry_law.proofs.Stands.{HasFrame, stand_is, the_stand, waiting_frame}
use Rattle.recording_core.specs.Machine.{cores_used, memory_used, stand_recorded, MayRecord}
use Rattle.recording_core.specs.Records.{desk_in}
use Rattle.booking_reasons.specs.declared.not_booked.NotBooked.TheVariants as reason
use Rattle.booking_reasons.specs.WhyNot.{unless, why_not_place, why_not_record}
use Rattle.recording_table.specs.Booking.{CanBook, HasPlace, IsAllowed, IsWhyLeft, burst_left, paused_at, place_left, takes_at}

-- ---- what is used

-- no frame of a kept farm is half booked
booked_runs : (f : Farm) (n : ℕ) → IsKeptFarm f → is_booked (stand_at f n).phase ≡ ((stand_at f n).phase == 4)
booked_runs f n kept =
    let p = (stand_at f n).phase in
    ap (λ (b : Bool). b || (p == 4)) (same_not p 3 (none_setup (opening_of f) [] no_desk kept.rows tt (inl refl) n))

module _ (f : Farm) (host : ℕ) (kept : IsKeptFarm f) (uses : UsesAreShown f) where
  pub cores_are : used_cores f host ≡ sum_to 65536 (λ n. cores_used host (stand_at f n))
  cores_are =
      uses.cores host
      ∙ sum_to-same 65536 (λ n. cores_used host (stand_at f n))
      (λ n. if is_booked (stand_at f n).phase && ((stand_at f n).host == host) then (stand_at f n).cores else 0)
      (λ n lt. ap (λ (b : Bool). if b && ((stand_at f n).host == host) then (stand_at f n).cores else 0) (booked_runs f n kept))

  pub memory_is : used_memory f host ≡ sum_to 65536 (λ n. memory_used host (stand_at f n))
  memory_is =
      uses.memory host
      ∙ sum_to-same 65536 (λ n. memory_used host (stand_at f n))
      (λ n. if is_booked (stand_at f n).phase && ((stand_at f n).host == host) then (stand_at f n).memory else 0)
      (λ n lt. ap (λ (b : Bool). if b && ((stand_at f n).host == host) then (stand_at f n).memory else 0) (booked_runs f n kept))

-- ---- what is recorded is what the farm says

module _ (v : View) (c : Claim) (p : Option ℕ) (may : MayRecord v p) (can : CanBook v c) where
  same : (n : ℕ) → stand_recorded v n ≡ stand_at (farm_in v) n
  same n = ap (λ (o : Option Desk). (recorded_in v.opening v.journal (desk_in o)).slot n) may.1 ∙ may.3.slot n

  pub has_place : IsKeptFarm (farm_in v) → UsesAreShown (farm_in v) → HasPlace (farm_in v) c.slot c.host
  has_place kept uses =
      let f = farm_in v in
      let s = same c.slot in
      let version : (stand_recorded v c.slot).version ≡ (stand_at f c.slot).version = ap (λ (x : Stand). x.version) s in
      let cores : (stand_recorded v c.slot).cores ≡ (stand_at f c.slot).cores = ap (λ (x : Stand). x.cores) s in
      let memory : (stand_recorded v c.slot).memory ≡ (stand_at f c.slot).memory = ap (λ (x : Stand). x.memory) s in
      let next = can.version in
      let low = can.below in
      let claimed = can.cores in
      let room = can.cores_left in
      let space = can.memory_left in
      let size = ap (λ (o : Option Desk). (recorded_in v.opening v.journal (desk_in o)).cores c.host) may.1 ∙ may.3.cores c.host in
      let capacity = ap (λ (o : Option Desk). (recorded_in v.opening v.journal (desk_in o)).memory c.host) may.1 ∙ may.3.memory c.host in
      let sum =
      sum_to-same 65536 (λ n. cores_used c.host (stand_at f n)) (λ n. cores_used c.host (stand_recorded v n)) (λ n lt. ap (cores_used c.host) (same n)) in
      let amount =
      sum_to-same 65536 (λ n. memory_used c.host (stand_at f n)) (λ n. memory_used c.host (stand_recorded v n)) (λ n lt. ap (memory_used c.host) (same n)) in
      let used = cores_are f c.host kept uses in
      let filled = memory_is f c.host kept uses in
      let before : c.version - 1 ≡ (stand_at f c.slot).version = omega (arith, next, version) in
      record {
        waits = ap (λ (x : Stand). x.phase) (sym s) ∙ can.waits;
        below = omega (arith, next, low, version);
        cores_left = omega (arith, room, claimed, cores, size, sum, used);
        memory_left = omega (arith, space, memory, capacity, amount, filled);
        sub = can.sub;
        suited = subst (λ (x : ℕ). suits f c.slot x c.host can.sub ≡ true) before can.suited;
      }

-- ---- the conditions of a booking

le_true : (a b : ℕ) → a ≤ b → nat_le a b ≡ true
le_true a b le = grind (arith, nat_tests)

lt_true : (a b : ℕ) → a < b → nat_lt a b ≡ true
lt_true a b lt = grind (arith, nat_tests)

cores_there : (f : Farm) (host : ℕ) (row : HostRow) → slice_get f.hosts host ≡ Some row → host_cores f host ≡ row.cores
unfolding host_cores
cores_there f host row at = ap (of_host (λ r. r.cores)) at

memory_there : (f : Farm) (host : ℕ) (row : HostRow) → slice_get f.hosts host ≡ Some row → host_memory f host ≡ row.memory
unfolding host_memory
memory_there f host row at = ap (of_host (λ r. r.memory)) at

-- a frame that waits is open
waits_open : (o : Option Frame) (x : Frame) (b : Bool) → o ≡ Some x → is_waiting x.state ≡ true
    → (for_some o (λ y. is_waiting y.state || is_running y.state) && not b) ≡ false → b ≡ true
waits_open o x true at waits unmet = refl
waits_open o x false at waits unmet = absurd (off (sym met ∙ unmet))
  where
    met : (for_some o (λ y. is_waiting y.state || is_running y.state) && true) ≡ true
    met =
        ap (λ (p : Option Frame). for_some p (λ y. is_waiting y.state || is_running y.state) && true) at
        ∙ ap (λ (w : Bool). (w || is_running x.state) && true) waits

    off : true ≡ false → ⊥
    off e = cc

four : (q t b l : Bool) → ((true && true && true && not q) && true && true && t && true && b && l) ≡ (not q && (t && (b && l)))
four true t b l = refl
four false false b l = refl
four false true false l = refl
four false true true l = refl

module _ (f : Farm) (slot host : ℕ) (kept : IsKeptFarm f) (k : HasPlace f slot host) where
  h : HasFrame f slot
  h = (waiting_frame f slot k.waits).0

  rows : FrameRows f h.frame.job h.frame.layer
  rows = frame_rows f kept.rows slot h.row h.frame h.at h.is

  stand : stand_at f slot ≡ the_stand h.row h.frame rows.job_row.show rows.layer_row
  stand = stand_is f slot h.row h.frame rows.job_row rows.layer_row h.at h.is rows.job_is rows.layer_is

  on_host : (row : HostRow) × (slice_get f.hosts host ≡ Some row) × (in_facility f row.alloc rows.job_row.facility ≡ true)
  on_host =
      let s = h.row in
      let j = rows.job_row in
      let version = (stand_at f slot).version in
      let made : suits f slot version host k.sub
      ≡ (s.version == version && (is_pending j.state && for_some (slice_get f.hosts host)
      (λ row. in_facility f row.alloc j.facility && (sub_of j.show row.alloc == k.sub)))) =
      rw h.at (rw h.is (rw rows.job_is refl)) in
      let on = for_some_true (slice_get f.hosts host) _ (and_both _ _ (and_both _ _ (sym made ∙ k.suited)).1).1 in
      (on.0, on.1, (and_both (in_facility f on.0.alloc j.facility) _ on.2).0)

  abbrev row : HostRow
  row = on_host.0

  waits : is_waiting h.frame.state ≡ true
  unfolding h
  waits = (waiting_frame f slot k.waits).1

  below : nat_lt h.row.version LAST_VERSION ≡ true
  below =
      let low = k.below in
      let version : (stand_at f slot).version ≡ h.row.version = ap (λ (s : Stand). s.version) stand in
      lt_true h.row.version LAST_VERSION (omega (arith, low, version))

  ready : is_ready h.row.version h.frame rows.job_row ≡ (true && true && true && not rows.job_row.paused)
  ready = λ i. waits i && below i && rows.pending i && not rows.job_row.paused

  capacity : has_capacity f host row rows.layer_row ≡ true
  capacity =
      let room = k.cores_left in
      let space = k.memory_left in
      let cores : (stand_at f slot).cores ≡ rows.layer_row.cores = ap (λ (s : Stand). s.cores) stand in
      let memory : (stand_at f slot).memory ≡ rows.layer_row.memory = ap (λ (s : Stand). s.memory) stand in
      let size = cores_there f host row on_host.1 in
      let sizes = memory_there f host row on_host.1 in
      let first = le_true (used_cores f host + rows.layer_row.cores) row.cores (omega (arith, room, cores, size)) in
      let second = le_true (used_memory f host + rows.layer_row.memory) row.memory (omega (arith, space, memory, sizes)) in
      λ i. first i && second i

  open_now : is_open f slot ≡ true
  unfolding h
  open_now = waits_open h.row.frame h.frame (is_open f slot) h.is (waiting_frame f slot k.waits).1 (kept.depends.free_to_run slot h.row h.at)

  placed : may_place f slot host h.row.version h.frame rows.job_row rows.layer_row row
      ≡ (not rows.job_row.paused && (takes_frames row && (within_burst f (sub_of rows.job_row.show row.alloc) rows.layer_row && within_limit f rows.layer_row)))
  placed =
      let takes = takes_frames row in
      let burst = within_burst f (sub_of rows.job_row.show row.alloc) rows.layer_row in
      let limit = within_limit f rows.layer_row in
      (λ i. ready i && open_now i && on_host.2 i && takes && capacity i && burst && limit) ∙ four rows.job_row.paused takes burst limit

  pub is_allowed : IsAllowed f slot host
  is_allowed =
      let s = h.row in
      let x = h.frame in
      let j = rows.job_row in
      let l = rows.layer_row in
      let there = on_host.1 in
      let may : may_record f slot host ≡ may_place f slot host s.version x j l row = rw h.at (rw h.is (rw rows.job_is (rw rows.layer_is (rw there refl)))) in
      let paused : paused_at f slot ≡ j.paused = rw h.at (rw h.is (rw rows.job_is refl)) in
      let takes : takes_at f host ≡ takes_frames row = rw there refl in
      let burst : burst_left f slot host ≡ within_burst f (sub_of j.show row.alloc) l = rw h.at (rw h.is (rw rows.job_is (rw rows.layer_is (rw there refl)))) in
      let place : place_left f slot ≡ within_limit f l = rw h.at (rw h.is (rw rows.layer_is refl)) in
      may ∙ placed ∙ sym (λ i. not (paused i) && (takes i && (burst i && place i)))

  why_placed : why_not_place f slot host h.row.version rows.job_row rows.layer_row row
      ≡ unless (not rows.job_row.paused) reason.JobPaused
      (unless (takes_frames row) reason.HostClosed
      (unless (within_burst f (sub_of rows.job_row.show row.alloc) rows.layer_row) reason.PastBurst
      (unless (within_limit f rows.layer_row) reason.AtLimit None)))
  why_placed =
      λ i.
      unless (below i) reason.VersionSpent
      (unless (rows.pending i) reason.JobFinished
      (unless (not rows.job_row.paused) reason.JobPaused
      (unless (open_now i) reason.NotOpen
      (unless (on_host.2 i) reason.OtherFacility
      (unless (takes_frames row) reason.HostClosed
      (unless (capacity i) reason.NoCapacity
      (unless (within_burst f (sub_of rows.job_row.show row.alloc) rows.layer_row) reason.PastBurst
      (unless (within_limit f rows.layer_row) reason.AtLimit None))))))))

  pub is_why_left : IsWhyLeft f slot host
  is_why_left =
      let s = h.row in
      let x = h.frame in
      let j = rows.job_row in
      let l = rows.layer_row in
      let there = on_host.1 in
      let why : why_not_record f slot host ≡ unless (is_waiting x.state) reason.NotWaiting (why_not_place f slot host s.version j l row) =
      rw h.at (rw h.is (rw rows.job_is (rw rows.layer_is (rw there refl)))) in
      let paused : paused_at f slot ≡ j.paused = rw h.at (rw h.is (rw rows.job_is refl)) in
      let takes : takes_at f host ≡ takes_frames row = rw there refl in
      let burst : burst_left f slot host ≡ within_burst f (sub_of j.show row.alloc) l = rw h.at (rw h.is (rw rows.job_is (rw rows.layer_is (rw there refl)))) in
      let place : place_left f slot ≡ within_limit f l = rw h.at (rw h.is (rw rows.layer_is refl)) in
      why
      ∙ (λ i. unless (waits i) reason.NotWaiting (why_placed i))
      ∙ sym (λ i.
      unless (not (paused i)) reason.JobPaused
      (unless (takes i) reason.HostClosed
      (unless (burst i) reason.PastBurst
      (unless (place i) reason.AtLimit None))))
