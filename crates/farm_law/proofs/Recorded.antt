-- An entry records the farm: only the farm that no entry has made isn't recorded.
use Rattle.std.proofs.Common.{◌≡◌, ℕ, List, [], ◌∷◌, Bool, true, Option, Some, None, refl, sym, ap, ◌∙◌}
use Rattle.std.proofs.lemmas.Bool.{true≢false}
use Rattle.farm_types.proofs.Passes.{cond_each}
use Rattle.farm_types.specs.declared.attempt.DoneItem.{DoneItem}
use Rattle.farm_types.specs.declared.attempt.ProcRow.{ProcRow}
use Rattle.farm_types.specs.declared.boot.BootLine.{BootLine}
use Rattle.farm_types.specs.declared.entry.Act.{Act}
use Rattle.farm_types.specs.declared.entry.Act.TheVariants.{Opened, Show, Alloc, Sub, Limit, Boot, Heard, Submit, AddDepend, DropDepend, Pause, KillJob, KillFrame, EatFrame, RetryFrame, Lock, Tick, Book}
use Rattle.farm_types.specs.declared.entry.Entry.{Entry}
use Rattle.farm_types.specs.declared.entry.HeardAct.{HeardAct}
use Rattle.farm_types.specs.declared.job.JobSpec.{JobSpec}
use Rattle.farm_types.specs.declared.rows.JobRow.{JobRow}
use Rattle.farm_types.specs.declared.slot_row.SlotRow.{SlotRow}
use Rattle.farm_types.specs.declared.states.FrameState.TheVariants.{Dead, Eaten}
use Rattle.farm_types.specs.declared.states.LockState.{LockState}
use Rattle.farm_types.specs.declared.sub_line.SubLine.{SubLine}
use Rattle.farm_types.specs.DependActs.{pending_named}
use Rattle.farm_types.specs.Farm.{Farm, alloc_named, host_named, limit_named, show_named}
use Rattle.farm_types.specs.Kept.{KeepsRecord}
use Rattle.farm_types.specs.Operators.{retried_row, slot_named, stopped_row, with_killed, with_paused, with_row_at}
use Rattle.farm_types.specs.Step.{acted, after, after_act, after_boot, after_heard, after_limit, after_lock, after_sub, after_submit, at_moment, closed, end_all, end_attempt, expire, finish_all, finish_each, finish_one, finishing, followed, is_live, moment_of, new_proc, sub_named, with_proc}
use Rattle.farm_law.proofs.Ended.{ended}
use Rattle.farm_law.proofs.Follows.{act_follows}

-- ---- acts

recorded_sub : (f : Farm) (line : SubLine) (o : Option ℕ) → (after_sub f line o).recorded ≡ f.recorded
recorded_sub f line None = refl
recorded_sub f line (Some sub) = refl

recorded_limit : (f : Farm) (name : List ℕ) (most : ℕ) (o : Option ℕ) → (after_limit f name most o).recorded ≡ f.recorded
recorded_limit f name most None = refl
recorded_limit f name most (Some limit) = refl

recorded_boot : (f : Farm) (line : BootLine) (moment : ℕ) (o : Option ℕ) → (after_boot f line moment o).recorded ≡ f.recorded
recorded_boot f line moment None = refl
recorded_boot f line moment (Some alloc) = refl

recorded_ends : (f : Farm) (host boot : ℕ) (ds : List DoneItem) → (end_all f host boot ds).recorded ≡ f.recorded
recorded_ends f host boot [] = refl
recorded_ends f host boot (d ∷ ds) =
    recorded_ends (end_attempt f host boot d) host boot ds
    ∙ cond_each (λ (g : Farm). g.recorded ≡ f.recorded) (is_live f host boot d.attempt.slot d.attempt.version) (ended f d.attempt.slot d.exit) f refl refl

recorded_heard : (f : Farm) (heard : HeardAct) (moment : ℕ) (o : Option ℕ) → (after_heard f heard moment o).recorded ≡ f.recorded
recorded_heard f heard moment None = refl
recorded_heard f heard moment (Some host) = recorded_ends _ host heard.boot heard.done

recorded_submit : (f : Farm) (spec : JobSpec) (o : Option ℕ) → (after_submit f spec o).recorded ≡ f.recorded
recorded_submit f spec None = refl
recorded_submit f spec (Some show) = refl

recorded_pause : (f : Farm) (paused : Bool) (o : Option JobRow) → (with_paused f paused o).recorded ≡ f.recorded
recorded_pause f paused None = refl
recorded_pause f paused (Some j) = refl

recorded_killed : (f : Farm) (o : Option JobRow) → (with_killed f o).recorded ≡ f.recorded
recorded_killed f None = refl
recorded_killed f (Some j) = refl

recorded_row : (f : Farm) (change : SlotRow → SlotRow) (o : Option ℕ) → (with_row_at f change o).recorded ≡ f.recorded
recorded_row f change None = refl
recorded_row f change (Some slot) = refl

recorded_lock : (f : Farm) (lock : LockState) (o : Option ℕ) → (after_lock f lock o).recorded ≡ f.recorded
recorded_lock f lock None = refl
recorded_lock f lock (Some host) = refl

recorded_book : (f : Farm) (slot : ℕ) (o : Option ProcRow) → (with_proc f slot o).recorded ≡ f.recorded
recorded_book f slot None = refl
recorded_book f slot (Some p) = refl

recorded_act : (f : Farm) (moment : ℕ) (act : Act) → (after_act f moment act).recorded ≡ f.recorded
recorded_act f moment Opened = refl
recorded_act f moment (Show name) = refl
recorded_act f moment (Alloc facility tag) = refl
recorded_act f moment (Sub line) = recorded_sub f line (sub_named f line)
recorded_act f moment (Limit name most) = recorded_limit f name most (limit_named f name)
recorded_act f moment (Boot line) = recorded_boot (expire f moment) line moment (alloc_named f line.alloc)
recorded_act f moment (Heard heard) = recorded_heard (expire f moment) heard moment (host_named f heard.host)
recorded_act f moment (Submit spec) = recorded_submit f spec (show_named f spec.show)
recorded_act f moment (AddDepend spec) = refl
recorded_act f moment (DropDepend depend) = refl
recorded_act f moment (Pause job paused) = recorded_pause f paused (pending_named f job)
recorded_act f moment (KillJob job) = recorded_killed f (pending_named f job)
recorded_act f moment (KillFrame p) = recorded_row f (stopped_row Dead) (slot_named f p)
recorded_act f moment (EatFrame p) = recorded_row f (stopped_row Eaten) (slot_named f p)
recorded_act f moment (RetryFrame p) = recorded_row f retried_row (slot_named f p)
recorded_act f moment (Lock host lock) = recorded_lock f lock (host_named f host)
recorded_act f moment Tick = refl
recorded_act f moment (Book slot host) = recorded_book f slot (new_proc f slot host moment)

-- ---- what follows, and the jobs that finish

recorded_followed : (act : Act) (f : Farm) → (followed act f).recorded ≡ f.recorded
recorded_followed act f = ap (λ (g : Farm). g.recorded) (act_follows act f).rest

recorded_each : (jobs : List ℕ) (f : Farm) → (finish_each jobs f).recorded ≡ f.recorded
recorded_each [] f = refl
recorded_each (job ∷ jobs) f = recorded_each jobs (finish_one job f)

recorded_all : (f : Farm) → (finish_all f).recorded ≡ f.recorded
unfolding finish_all
recorded_all f = recorded_each (finishing f) f

recorded_closed : (act : Act) (f : Farm) → (closed act f).recorded ≡ f.recorded
recorded_closed (Heard heard) f = recorded_all f
recorded_closed (KillJob job) f = recorded_all f
recorded_closed (EatFrame p) f = recorded_all f
recorded_closed act f = refl

-- ---- an entry

recorded_after : (f : Farm) (e : Entry) → (after f e).recorded ≡ true
recorded_after f e =
    recorded_closed e.act (followed e.act (acted f e))
    ∙ (recorded_followed e.act (acted f e) ∙ recorded_act (at_moment f (moment_of f e.moment)) (moment_of f e.moment) e.act)

-- the farm after an entry is recorded
pub record_stays : (f : Farm) (e : Entry) → KeepsRecord (after f e)
record_stays f e none = absurd (true≢false (sym (recorded_after f e) ∙ none))
