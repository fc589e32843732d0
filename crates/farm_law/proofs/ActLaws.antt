-- What each act keeps, books and completes.
--
-- An act that changes hosts, slots, allocations or jobs has its line in `act_law`. One that changes none of these needs none: the last
-- clause is checked for it. The same holds of `act_safely` for acts that book nothing, and of `act_counts` for those that complete nothing.
use Rattle.std.proofs.Common.{ℕ, refl, List, [], Option, Some, None, ◌∷◌, ◌++◌}
use Rattle.farm_law.proofs.Booked.{book_law, book_safely}
use Rattle.farm_law.proofs.Booted.{boot_law}
use Rattle.farm_law.proofs.Ended.{end_all_law, report_law}
use Rattle.farm_law.proofs.Hosts.{opened_law, heard_law, lock_law}
use Rattle.farm_law.proofs.KeepsLaw.{KeepsLaw, law_same, law_then, law_unchanged, law_of_same_rows}
use Rattle.farm_law.proofs.Lost.{expire_law}
use Rattle.farm_law.proofs.Once.{CountsOnce, counts_none, counts_then, counts_in}
use Rattle.farm_law.proofs.Paused.{pause_law}
use Rattle.farm_law.proofs.Placed.{submit_law}
use Rattle.farm_law.proofs.RowsStay.{AllocStays, slots_same, hosts_same, jobs_same}
use Rattle.farm_law.proofs.Spent.{spent_stays}
use Rattle.farm_law.proofs.Stopped.{IsStopped, frame_stops, job_stops, retried_stops, row_stops, stops_law}
use Rattle.farm_types.proofs.Stays.{EachStays-append}
use Rattle.farm_types.specs.DependActs.{pending_named}
use Rattle.farm_types.specs.Farm.{Farm, changed_at, host_named, limit_named, show_named, alloc_named}
use Rattle.farm_types.specs.Hosts.{heard_row}
use Rattle.farm_types.specs.Operators.{retried_row, slot_named, stopped_row, with_frame, with_killed}
use Rattle.farm_types.specs.Run.{IsSound, HasItsHosts, ActsSafely, counted_by, counted_of, counted_in}
use Rattle.farm_types.specs.Step.{HasCondition, after_act, after_heard, after_boot, after_limit, after_sub, sub_named, expire, end_all}
use Rattle.farm_types.specs.declared.entry.Act.{Act}
use Rattle.farm_types.specs.declared.entry.Act.TheVariants.{Opened, Alloc, Sub, Limit, Boot, Heard, Submit, Pause, KillJob, KillFrame, EatFrame, RetryFrame, Lock, Tick, Book}
use Rattle.farm_types.specs.declared.entry.FramePlace.{FramePlace}
use Rattle.farm_types.specs.declared.entry.HeardAct.{HeardAct}
use Rattle.farm_types.specs.declared.rows.AllocRow.{AllocRow}
use Rattle.farm_types.specs.declared.slot_row.SlotRow.{SlotRow}
use Rattle.farm_types.specs.declared.states.FrameState.TheVariants.{Dead, Eaten}
use Rattle.farm_types.specs.declared.sub_line.SubLine.{SubLine}

-- ---- what it keeps

alloc_law : (f : Farm) (more : List AllocRow) → KeepsLaw f (record f { allocs = f.allocs ++ more })
alloc_law f more =
    law_unchanged f (record f { allocs = f.allocs ++ more }) refl refl
    (record { slots = slots_same f.slots; hosts = hosts_same f.hosts; allocs = EachStays-append AllocStays (λ row. refl) f.allocs more; jobs = jobs_same f.jobs })

sub_law : (f : Farm) (line : SubLine) (o : Option ℕ) → KeepsLaw f (after_sub f line o)
sub_law f line None = law_same f
sub_law f line (Some sub) = law_of_same_rows f (after_sub f line (Some sub)) refl refl refl refl

limit_law : (f : Farm) (name : List ℕ) (most : ℕ) (o : Option ℕ) → KeepsLaw f (after_limit f name most o)
limit_law f name most None = law_of_same_rows f (after_limit f name most None) refl refl refl refl
limit_law f name most (Some limit) = law_of_same_rows f (after_limit f name most (Some limit)) refl refl refl refl

frame_law : (f : Farm) (p : FramePlace) (change : SlotRow → SlotRow) → ((s : SlotRow) → IsStopped s (change s)) → KeepsLaw f (with_frame f p change)
frame_law f p change stops = stops_law f (with_frame f p change) (frame_stops change stops f (slot_named f p))

pub act_law : (f : Farm) (moment : ℕ) (act : Act) → HasCondition f act → KeepsLaw f (after_act f moment act)
act_law f moment Opened allowed = opened_law f moment
act_law f moment (Alloc facility tag) allowed = alloc_law f (record { facility = facility; tag = tag } ∷ [])
act_law f moment (Sub line) allowed = sub_law f line (sub_named f line)
act_law f moment (Limit name most) allowed = limit_law f name most (limit_named f name)
act_law f moment (Boot line) allowed =
    let now = expire f moment in
    law_then f now (after_boot now line moment (alloc_named f line.alloc)) (expire_law f moment) (boot_law now line moment (alloc_named f line.alloc))
act_law f moment (Heard heard) allowed =
    let now = expire f moment in
    law_then f now (after_heard now heard moment (host_named f heard.host)) (expire_law f moment) (report_law now heard moment (host_named f heard.host))
act_law f moment (Submit spec) allowed = submit_law f spec (show_named f spec.show)
act_law f moment (Pause job paused) allowed = pause_law f paused (pending_named f job)
act_law f moment (KillJob job) allowed = stops_law f (with_killed f (pending_named f job)) (job_stops f (pending_named f job))
act_law f moment (KillFrame p) allowed = frame_law f p (stopped_row Dead) (row_stops Dead refl)
act_law f moment (EatFrame p) allowed = frame_law f p (stopped_row Eaten) (row_stops Eaten refl)
act_law f moment (RetryFrame p) allowed = frame_law f p retried_row retried_stops
act_law f moment (Lock host lock) allowed = lock_law f lock (host_named f host)
act_law f moment Tick allowed = expire_law f moment
act_law f moment (Book slot host) allowed = book_law f slot host moment allowed
act_law f moment act allowed = law_of_same_rows f (after_act f moment act) refl refl refl refl

-- ---- what it books

pub act_safely : (f : Farm) (moment : ℕ) (act : Act) → HasCondition f act → IsSound f → ActsSafely f (after_act f moment act) act
act_safely f moment (Book slot host) allowed ok = book_safely f slot host moment allowed ok
act_safely f moment act allowed ok = tt

-- ---- what it completes

report_counts : (f : Farm) (heard : HeardAct) (moment : ℕ) (o : Option ℕ) → IsSound f → HasItsHosts f → CountsOnce f (after_heard f heard moment o) (counted_of f heard moment o)
report_counts f heard moment None ok there = counts_none f f
report_counts f heard moment (Some host) ok there =
    let now = record f { hosts = changed_at f.hosts host (heard_row heard.seq moment) } in
    let law = heard_law f host heard.seq moment in
    let end = end_all now host heard.boot heard.done in
    counts_then f now end [] (counted_in now host heard.boot heard.done) (spent_stays f now law.rows.slots) (spent_stays now end (end_all_law now host heard.boot heard.done).rows.slots) (counts_none f now)
    (counts_in now host heard.boot heard.done (law.sound ok there) (law.hosts ok there))

-- a report first sees which hosts are silent
heard_counts : (f : Farm) (heard : HeardAct) (moment : ℕ) → IsSound f → HasItsHosts f → CountsOnce f (after_act f moment (Heard heard)) (counted_by f moment (Heard heard))
heard_counts f heard moment ok there =
    let now = expire f moment in
    let law = expire_law f moment in
    let end = after_heard now heard moment (host_named f heard.host) in
    counts_then f now end [] (counted_of now heard moment (host_named f heard.host)) (spent_stays f now law.rows.slots) (spent_stays now end (report_law now heard moment (host_named f heard.host)).rows.slots)
    (counts_none f now) (report_counts now heard moment (host_named f heard.host) (law.sound ok there) (law.hosts ok there))

pub act_counts : (f : Farm) (moment : ℕ) (act : Act) → IsSound f → HasItsHosts f → CountsOnce f (after_act f moment act) (counted_by f moment act)
act_counts f moment (Heard heard) ok there = heard_counts f heard moment ok there
act_counts f moment act ok there = counts_none f (after_act f moment act)
