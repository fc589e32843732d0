-- What acts keep of depends. After a report, and where frames are eaten, the farm is to be settled; a frame that is retried may have to be blocked; after
-- every other act the farm keeps its depends.
use Rattle.std.proofs.Common.{◌≡◌, ℕ, None, refl}
use Rattle.farm_types.specs.declared.entry.Act.{Act}
use Rattle.farm_types.specs.declared.entry.Act.TheVariants.{Opened, Show, Alloc, Sub, Limit, Boot, Heard, Submit, AddDepend, DropDepend, Pause, KillJob, KillFrame, EatFrame, RetryFrame, Lock, Tick, Book}
use Rattle.farm_types.specs.DependActs.{pending_named}
use Rattle.farm_types.specs.Farm.{Farm, alloc_named, host_named, limit_named, show_named}
use Rattle.farm_types.specs.Kept.{KeepsDepends, KeepsRows}
use Rattle.farm_types.specs.Step.{HasCondition, act_refusal, after_act, expire, sub_named}
use Rattle.farm_law.proofs.Lost.{expire_sound}
use Rattle.depend_law.specs.Unsettled.{Unsettled, WaitingOpen}
use Rattle.depend_law.proofs.Carries.{all_same, kept_by}
use Rattle.depend_law.proofs.NewJob.{submit_keeps}
use Rattle.depend_law.proofs.Retried.{retry_leaves}
use Rattle.depend_law.proofs.Settled.{Settled}
use Rattle.depend_law.proofs.Stops.{eat_leaves, kill_keeps, kill_leaves, pause_keeps}
use Rattle.depend_law.proofs.KeptTurns.{book_keeps, boot_keeps, expire_keeps, heard_leaves, heard_waiting, limit_keeps, lock_keeps, sub_keeps}

-- what the act alone leaves of depends
abbrev pub LeavesDepends : Farm → Act → Type 0
LeavesDepends g (Heard heard) = Unsettled g × WaitingOpen g
LeavesDepends g (KillJob job) = Unsettled g × WaitingOpen g
LeavesDepends g (EatFrame p) = Unsettled g × WaitingOpen g
LeavesDepends g (RetryFrame p) = Settled g
LeavesDepends g act = KeepsDepends g

pub act_leaves : (f : Farm) (moment : ℕ) (act : Act) → act_refusal f act ≡ None → HasCondition f act → KeepsRows f → KeepsDepends f → LeavesDepends (after_act f moment act) act
act_leaves f moment Opened accepted allowed rows k = kept_by f (after_act f moment Opened) k (all_same f (after_act f moment Opened) refl refl refl refl refl refl)
act_leaves f moment (Show name) accepted allowed rows k = kept_by f (after_act f moment (Show name)) k (all_same f (after_act f moment (Show name)) refl refl refl refl refl refl)
act_leaves f moment (Alloc facility tag) accepted allowed rows k =
    kept_by f (after_act f moment (Alloc facility tag)) k (all_same f (after_act f moment (Alloc facility tag)) refl refl refl refl refl refl)
act_leaves f moment (Sub line) accepted allowed rows k = sub_keeps f line (sub_named f line) k
act_leaves f moment (Limit name most) accepted allowed rows k = limit_keeps f name most (limit_named f name) k
act_leaves f moment (Boot line) accepted allowed rows k =
    boot_keeps (expire f moment) line moment (alloc_named f line.alloc) (expire_sound f moment rows.sound) (expire_keeps f moment rows.sound k)
act_leaves f moment (Heard heard) accepted allowed rows k =
    (heard_leaves f heard moment (host_named f heard.host) rows k, heard_waiting f heard moment (host_named f heard.host) rows k)
act_leaves f moment (Submit spec) accepted allowed rows k = submit_keeps f rows k spec (show_named f spec.show)
act_leaves f moment (AddDepend spec) accepted allowed rows k = k
act_leaves f moment (DropDepend depend) accepted allowed rows k = k
act_leaves f moment (Pause job paused) accepted allowed rows k = pause_keeps f paused (pending_named f job) k
act_leaves f moment (KillJob job) accepted allowed rows k = kill_leaves f (pending_named f job) k
act_leaves f moment (KillFrame p) accepted allowed rows k = kill_keeps f p accepted k
act_leaves f moment (EatFrame p) accepted allowed rows k = eat_leaves f p k
act_leaves f moment (RetryFrame p) accepted allowed rows k = retry_leaves f k p
act_leaves f moment (Lock host lock) accepted allowed rows k = lock_keeps f lock (host_named f host) k
act_leaves f moment Tick accepted allowed rows k = expire_keeps f moment rows.sound k
act_leaves f moment (Book slot host) accepted allowed rows k = book_keeps f slot host moment allowed k
