-- The row of a frame that is booked may be installed in its slot.
use Rattle.std.proofs.Common.{◌≡◌, ◌∙◌, ap, Bool, true, false, ◌+◌, ◌<◌, ◌≤◌, ℕ, leb, List, Option, Some, None, length, refl, subst, sym, arith, option_map}
use Rattle.std.specs.Prelude.{option_and_then, if◌then◌else◌}
use Rattle.std.specs.List.{slice_get, slice_set}
use Rattle.std.proofs.lemmas.Bool.{false≢true, leb-true}
use Rattle.std.proofs.lemmas.Option.{none-some, same_Some, slice_get_within}
use Rattle.farm_types.specs.declared.attempt.ProcRow.{ProcRow}
use Rattle.farm_types.specs.declared.limits.TheConstants.{MOST_HOSTS}
use Rattle.farm_types.specs.declared.rows.HostRow.{HostRow}
use Rattle.farm_types.specs.declared.rows.JobRow.{JobRow}
use Rattle.farm_types.specs.declared.rows.LayerRow.{LayerRow}
use Rattle.farm_types.specs.declared.rows.SubRow.{SubRow}
use Rattle.farm_types.specs.declared.slot_row.Frame.{Frame}
use Rattle.farm_types.specs.declared.slot_row.SlotRow.{SlotRow}
use Rattle.farm_types.specs.declared.states.FrameState.TheVariants.{Running}
use Rattle.farm_types.specs.Booking.{may_place, may_record, within_burst, within_limit}
use Rattle.farm_types.specs.Depends.{groups_of}
use Rattle.farm_types.specs.Farm.{Farm, for_some, job_at, layer_at, sub_at, sub_of}
use Rattle.farm_types.specs.Run.{live_at}
use Rattle.farm_types.specs.Step.{at_moment, booked_row, new_proc, proc_of, with_proc}
use Rattle.farm_types.specs.Sums.{booked_in}
use Rattle.farm_types.proofs.Changed.{changed_at_is}
use Rattle.farm_types.proofs.Lists.{and_both}
use Rattle.job_book.specs.Book.{IsSameFrame, KeepsFrame}
use Rattle.sub_ledger.specs.Ledger.{IsWithin}
use Rattle.farm_books.specs.Bookings.{booked_at, row_of_booking}
use Rattle.farm_books.specs.Install.{CanInstall}

-- where a test of what there is holds, and something is made of it
made_of : {X Y P : Type 0} (o : Option X) (test : X → Bool) (make : X → Option Y) (y : Y) → for_some o test ≡ true → option_and_then make o ≡ Some y
    → ((x : X) → test x ≡ true → make x ≡ Some y → P) → P
made_of None test make y h made use_it = absurd (false≢true h)
made_of (Some x) test make y h made use_it = use_it x h made

-- the frame that runs is the one that stood there
runs_same : (frame : Option Frame) (test : Frame → Bool) → for_some frame test ≡ true → IsSameFrame frame (option_map (λ (x : Frame). record x { state = Running }) frame)
runs_same None test h = absurd (false≢true h)
runs_same (Some x) test h = refl

-- a subscription whose burst takes so many cores is there
burst_within : (o : Option SubRow) (booked : ℕ) → for_some o (λ (s : SubRow). leb booked s.burst) ≡ true → IsWithin o booked
burst_within None booked h = absurd (false≢true h)
burst_within (Some s) booked h = leb-true booked s.burst h

-- the attempt is on the host, which is there, and the subscription takes its cores
record Begins (f : Farm) (host : ℕ) (p : ProcRow) : Type 0 where
  host_is : p.host ≡ host
  host_there : host < length f.hosts
  within : IsWithin (sub_at f p.sub) (booked_in f p.sub + p.cores)

module _ (f : Farm) (slot host moment : ℕ) (p : ProcRow) (s : SlotRow) where
  placed_begins : (frame : Frame) (job : JobRow) (layer : LayerRow) (o : Option HostRow) → slice_get f.hosts host ≡ o → for_some o (λ (row : HostRow). may_place f slot host s.version frame job layer row) ≡ true
      → option_map (proc_of slot host moment s job layer) o ≡ Some p → Begins f host p
  placed_begins frame job layer None at h made = absurd (false≢true h)
  placed_begins frame job layer (Some row) at h made =
      let sub = sub_of job.show row.alloc in
      let parts = and_both _ (within_limit f layer) h in
      let burst = and_both _ (within_burst f sub layer) parts.0 in
      subst (Begins f host) (same_Some (proc_of slot host moment s job layer row) p made)
      (record { host_is = refl; host_there = slice_get_within f.hosts host row at; within = burst_within (sub_at f sub) (booked_in f sub + layer.cores) burst.1 })

  booked_installs : may_record f slot host ≡ true → live_at f slot ≡ None → slice_get f.slots slot ≡ Some s → new_proc f slot host moment ≡ Some p → length f.hosts ≤ MOST_HOSTS → CanInstall f.subs f.slots slot (booked_row p s)
  booked_installs may free at made few =
      let allowed = rw at at may in
      let of_slot = rw at at made in
      let begins : Begins f host p =
      made_of s.frame _ _ p allowed of_slot (λ frame h1 m1. made_of (job_at f frame.job) _ _ p h1 m1 (λ job h2 m2. made_of (layer_at f frame.job frame.layer) _ _ p h2 m2 (λ layer h3 m3.
      placed_begins frame job layer (slice_get f.hosts host) refl h3 m3))) in
      record {
        keeps = subst (λ (o : Option SlotRow). KeepsFrame o (booked_row p s)) (sym at) (runs_same s.frame _ allowed);
        begins = record { free = free; host_within = omega (arith, begins.host_is, begins.host_there); within = begins.within };
      }

-- ---- the row that is asked for

-- the row by whether the booking may be recorded, the attempt, and the row that stands
abbrev row_by : Bool → Option ProcRow → Option SlotRow → Option SlotRow
row_by allowed o before = if allowed then option_and_then (λ s. option_map (λ p. booked_row p s) o) before else None

-- what a booking is made of gives the slot's row
pub booking_makes : (f : Farm) (slot host moment : ℕ) (s : SlotRow) (frame : Frame) (job : JobRow) (layer : LayerRow) (row : HostRow) (sub : ℕ)
    → slice_get f.slots slot ≡ Some s → s.frame ≡ Some frame → job_at f frame.job ≡ Some job → layer_at f frame.job frame.layer ≡ Some layer → slice_get f.hosts host ≡ Some row
    → sub ≡ sub_of job.show row.alloc → may_place f slot host s.version frame job layer row ≡ true
    → booked_at f slot host moment ≡ Some (row_of_booking slot host moment s.version frame layer row sub)
booking_makes f slot host moment s frame job layer row sub at framed job_is layer_is host_is sub_is placed =
    let allowed : may_record f slot host ≡ true = rw at (rw framed (rw job_is (rw layer_is (rw host_is placed)))) in
    let p = proc_of slot host moment s job layer row in
    let made : new_proc f slot host moment ≡ Some p = rw at (rw framed (rw job_is (rw layer_is (rw host_is refl)))) in
    ap (λ (b : Bool). row_by b (new_proc f slot host moment) (slice_get f.slots slot)) allowed
    ∙ (ap (λ (o : Option ProcRow). row_by true o (slice_get f.slots slot)) made
    ∙ (ap (row_by true (Some p)) at
    ∙ (ap (λ (o : Option Frame). Some (record { version = p.version; frame = option_map (λ (x : Frame). record x { state = Running }) o; proc = Some p })) framed
    ∙ ap (λ (n : ℕ). Some (row_of_booking slot host moment s.version frame layer row n)) (sym sub_is))))

module _ (f : Farm) (slot host moment : ℕ) (row : SlotRow) where
  -- the row that stands, and the attempt
  record Parts : Type 0 where
    allowed : may_record f slot host ≡ true
    before : SlotRow
    proc : ProcRow
    at : slice_get f.slots slot ≡ Some before
    made : new_proc f slot host moment ≡ Some proc
    row_is : booked_row proc before ≡ row

  parts_by : (b : Bool) (o : Option ProcRow) (before : Option SlotRow) → may_record f slot host ≡ b → new_proc f slot host moment ≡ o → slice_get f.slots slot ≡ before → row_by b o before ≡ Some row → Parts
  parts_by false o before allowed made at e = absurd (none-some row e)
  parts_by true o None allowed made at e = absurd (none-some row e)
  parts_by true None (Some s) allowed made at e = absurd (none-some row e)
  parts_by true (Some p) (Some s) allowed made at e = record { allowed = allowed; before = s; proc = p; at = at; made = made; row_is = same_Some (booked_row p s) row e }

  parts : booked_at f slot host moment ≡ Some row → Parts
  parts e = parts_by (may_record f slot host) (new_proc f slot host moment) (slice_get f.slots slot) refl refl refl e

  -- it may be recorded
  pub booked_row_allowed : booked_at f slot host moment ≡ Some row → may_record f slot host ≡ true
  booked_row_allowed e = (parts e).allowed

  -- where the slot has no attempt, the row may be installed
  pub booked_row_installs : booked_at f slot host moment ≡ Some row → live_at f slot ≡ None → length f.hosts ≤ MOST_HOSTS → CanInstall f.subs f.slots slot row
  booked_row_installs e free few =
      let ps = parts e in
      subst (CanInstall f.subs f.slots slot) ps.row_is (booked_installs f slot host moment ps.proc ps.before ps.allowed free ps.at ps.made few)

  -- the farm with that row is the one with the attempt
  pub booked_row_leaves : booked_at f slot host moment ≡ Some row → record f { slots = slice_set f.slots slot row } ≡ with_proc f slot (new_proc f slot host moment)
  booked_row_leaves e =
      let ps = parts e in
      ap (λ (r : SlotRow). record f { slots = slice_set f.slots slot r }) (sym ps.row_is)
      ∙ (ap (λ (ss : List SlotRow). record f { slots = ss }) (sym (changed_at_is f.slots slot (booked_row ps.proc) ps.before ps.at))
      ∙ ap (λ (o : Option ProcRow). with_proc f slot o) (sym ps.made))

-- the moment that the farm is at decides nothing of a booking
pub booked_at_moment : (f : Farm) (slot host moment since : ℕ) → booked_at (at_moment f moment) slot host since ≡ booked_at f slot host since
unfolding groups_of
booked_at_moment f slot host moment since = refl
