-- Each act leaves depends and marks as they are, and of each depend that isn't satisfied the groups.
use Rattle.std.proofs.Common.{◌≡◌, ℕ, true, List, Option, Some, None, refl, sym, subst}
use Rattle.farm_types.specs.declared.boot.BootLine.{BootLine}
use Rattle.farm_types.specs.declared.entry.Act.{Act}
use Rattle.farm_types.specs.declared.entry.Act.TheVariants.{Sub, Limit, Boot, Heard, Submit, Pause, KillJob, KillFrame, EatFrame, RetryFrame, Lock, Tick, Book}
use Rattle.farm_types.specs.declared.job.JobSpec.{JobSpec}
use Rattle.farm_types.specs.declared.states.LockState.{LockState}
use Rattle.farm_types.specs.declared.sub_line.SubLine.{SubLine}
use Rattle.farm_types.specs.Booking.{may_record}
use Rattle.farm_types.specs.DependActs.{pending_named}
use Rattle.farm_types.specs.Farm.{Farm, alloc_named, changed_at, host_named, limit_named, show_named}
use Rattle.farm_types.specs.Kept.{KeepsDepends, KeepsRows}
use Rattle.farm_types.specs.Operators.{retried_row, slot_named, with_row_at}
use Rattle.farm_types.specs.Run.{IsSound}
use Rattle.farm_types.specs.Step.{HasCondition, act_refusal, after_act, after_boot, after_limit, after_lock, after_sub, after_submit, booked_row, expire, new_proc, proc_of, sub_named, with_proc}
use Rattle.farm_law.proofs.Booked.{booking_makes}
use Rattle.farm_law.proofs.CanBook.{can_book}
use Rattle.farm_law.proofs.Lost.{expire_sound}
use Rattle.depend_law.proofs.Carries.{Carries, all_same, all_turns, carries_then}
use Rattle.depend_law.proofs.KeptTurns.{boot_frames, boot_turns, expire_carries, heard_carries, same_carries}
use Rattle.depend_law.proofs.NewJob.{job_carries}
use Rattle.depend_law.proofs.Retried.{again_stays}
use Rattle.depend_law.proofs.Shapes.{booked_frames, changed_frames}
use Rattle.depend_law.proofs.Stable.{SameGroups, same_groups}
use Rattle.depend_law.proofs.Stops.{eat_carries, kill_carries, kill_frame_carries, pause_carries}

-- depends keep their groups and marks, and the next number stays
pub record LeavesGroups (f g : Farm) : Type 0 where
  pub same : SameGroups f g
  pub next : g.next_depend ≡ f.next_depend

of_carries : (f g : Farm) → Carries f g → LeavesGroups f g
of_carries f g c = record { same = c.same; next = c.next }

sub_same : (f : Farm) (line : SubLine) (o : Option ℕ) → Carries f (after_sub f line o)
sub_same f line None = same_carries f
sub_same f line (Some sub) = (all_same f (after_sub f line (Some sub)) refl refl refl refl refl refl).carries

limit_same : (f : Farm) (name : List ℕ) (most : ℕ) (o : Option ℕ) → Carries f (after_limit f name most o)
limit_same f name most None = (all_same f (after_limit f name most None) refl refl refl refl refl refl).carries
limit_same f name most (Some limit) = (all_same f (after_limit f name most (Some limit)) refl refl refl refl refl refl).carries

lock_same : (f : Farm) (lock : LockState) (o : Option ℕ) → Carries f (after_lock f lock o)
lock_same f lock None = same_carries f
lock_same f lock (Some host) = (all_same f (after_lock f lock (Some host)) refl refl refl refl refl refl).carries

boot_same : (f : Farm) (line : BootLine) (moment : ℕ) (o : Option ℕ) → IsSound f → Carries f (after_boot f line moment o)
boot_same f line moment None ok = same_carries f
boot_same f line moment (Some alloc) ok =
    (all_turns f (after_boot f line moment (Some alloc)) refl refl refl refl refl (boot_frames f line (host_named f line.host)) (boot_turns f ok line (host_named f line.host))).carries

submit_same : (f : Farm) → KeepsRows f → KeepsDepends f → (spec : JobSpec) (o : Option ℕ) → Carries f (after_submit f spec o)
submit_same f rows k spec None = same_carries f
submit_same f rows k spec (Some show) = (job_carries f rows k spec show).carries

retry_same : (f : Farm) (o : Option ℕ) → LeavesGroups f (with_row_at f retried_row o)
retry_same f None = of_carries f f (same_carries f)
retry_same f (Some slot) =
    record { same = same_groups f (with_row_at f retried_row (Some slot)) refl refl refl (changed_frames retried_row again_stays f.slots slot); next = refl }

book_same : (f : Farm) (slot host moment : ℕ) → may_record f slot host ≡ true → LeavesGroups f (with_proc f slot (new_proc f slot host moment))
book_same f slot host moment allowed =
    let found = can_book f slot host allowed in
    let r = found.0 in
    let p = proc_of slot host moment r.slot r.job r.layer r.host in
    let g = record f { slots = changed_at f.slots slot (booked_row p) } in
    subst (LeavesGroups f) (sym (booking_makes f slot host moment r found.1)) (record { same = same_groups f g refl refl refl (booked_frames p f.slots slot); next = refl })

pub act_same : (f : Farm) (moment : ℕ) (act : Act) → act_refusal f act ≡ None → HasCondition f act → KeepsRows f → KeepsDepends f → LeavesGroups f (after_act f moment act)
act_same f moment (Sub line) accepted allowed rows k = of_carries f (after_act f moment (Sub line)) (sub_same f line (sub_named f line))
act_same f moment (Limit name most) accepted allowed rows k = of_carries f (after_act f moment (Limit name most)) (limit_same f name most (limit_named f name))
act_same f moment (Boot line) accepted allowed rows k =
    of_carries f (after_act f moment (Boot line))
    (carries_then f (expire f moment) (after_act f moment (Boot line)) (expire_carries f moment rows.sound).carries
    (boot_same (expire f moment) line moment (alloc_named f line.alloc) (expire_sound f moment rows.sound)))
act_same f moment (Heard heard) accepted allowed rows k = of_carries f (after_act f moment (Heard heard)) (heard_carries f heard moment (host_named f heard.host) rows)
act_same f moment (Submit spec) accepted allowed rows k = of_carries f (after_act f moment (Submit spec)) (submit_same f rows k spec (show_named f spec.show))
act_same f moment (Pause job paused) accepted allowed rows k = of_carries f (after_act f moment (Pause job paused)) (pause_carries f paused (pending_named f job)).carries
act_same f moment (KillJob job) accepted allowed rows k = of_carries f (after_act f moment (KillJob job)) (kill_carries f (pending_named f job))
act_same f moment (KillFrame p) accepted allowed rows k = of_carries f (after_act f moment (KillFrame p)) (kill_frame_carries f p accepted).carries
act_same f moment (EatFrame p) accepted allowed rows k = of_carries f (after_act f moment (EatFrame p)) (eat_carries f (slot_named f p))
act_same f moment (RetryFrame p) accepted allowed rows k = retry_same f (slot_named f p)
act_same f moment (Lock host lock) accepted allowed rows k = of_carries f (after_act f moment (Lock host lock)) (lock_same f lock (host_named f host))
act_same f moment Tick accepted allowed rows k = of_carries f (after_act f moment Tick) (expire_carries f moment rows.sound).carries
act_same f moment (Book slot host) accepted allowed rows k = book_same f slot host moment allowed
act_same f moment act accepted allowed rows k = of_carries f (after_act f moment act) (all_same f (after_act f moment act) refl refl refl refl refl refl).carries
