-- What an act does to the books beside the depends, it does to the whole farm.
use Rattle.std.proofs.Common.{◌≡◌, ℕ, Bool, true, false, cond, List, [], ◌∷◌, Option, None, Some, refl, ap, sym, ◌∙◌}
use Rattle.farm_types.specs.declared.attempt.DoneItem.{DoneItem}
use Rattle.farm_types.specs.declared.attempt.ProcRow.{ProcRow}
use Rattle.farm_types.specs.declared.boot.BootLine.{BootLine}
use Rattle.farm_types.specs.declared.entry.Act.{Act}
use Rattle.farm_types.specs.declared.entry.Act.TheVariants.{Opened, Show, Alloc, Sub, Limit, Boot, Heard, Submit, AddDepend, DropDepend, Pause, KillJob, KillFrame, EatFrame, RetryFrame, Lock, Tick, Book}
use Rattle.farm_types.specs.declared.entry.Entry.{Entry}
use Rattle.farm_types.specs.declared.entry.FramePlace.{FramePlace}
use Rattle.farm_types.specs.declared.entry.HeardAct.{HeardAct}
use Rattle.farm_types.specs.declared.job.JobSpec.{JobSpec}
use Rattle.farm_types.specs.declared.rows.JobRow.{JobRow}
use Rattle.farm_types.specs.declared.slot_row.SlotRow.{SlotRow}
use Rattle.farm_types.specs.declared.states.FrameState.TheVariants.{Dead, Eaten}
use Rattle.farm_types.specs.declared.states.LockState.{LockState}
use Rattle.farm_types.specs.declared.sub_line.SubLine.{SubLine}
use Rattle.farm_types.specs.DependActs.{pending_named}
use Rattle.farm_types.specs.Farm.{Farm, alloc_named, changed_at, host_named, limit_named, show_named}
use Rattle.farm_types.specs.Hosts.{heard_row}
use Rattle.farm_types.specs.Operators.{retried_row, slot_named, stopped_row, with_frame, with_killed, with_paused, with_row_at}
use Rattle.farm_types.specs.Step.{acted, after_act, after_boot, after_heard, after_limit, after_lock, after_sub, after_submit, at_moment, end_all, end_attempt, ended_row, expire, is_live, moment_of, new_proc, sub_named, with_proc}
use Rattle.depend_book.specs.Book.{DependLists, joined}

module _ (b : DependLists) where
  joined_cond : (c : Bool) (f g : Farm) → joined (cond c f g) b ≡ cond c (joined f b) (joined g b)
  joined_cond true f g = refl
  joined_cond false f g = refl

  joined_sub : (f : Farm) (line : SubLine) (o : Option ℕ) → joined (after_sub f line o) b ≡ after_sub (joined f b) line o
  joined_sub f line None = refl
  joined_sub f line (Some sub) = refl

  joined_limit : (f : Farm) (name : List ℕ) (most : ℕ) (o : Option ℕ) → joined (after_limit f name most o) b ≡ after_limit (joined f b) name most o
  joined_limit f name most None = refl
  joined_limit f name most (Some limit) = refl

  joined_boot : (f : Farm) (line : BootLine) (moment : ℕ) (o : Option ℕ) → joined (after_boot f line moment o) b ≡ after_boot (joined f b) line moment o
  joined_boot f line moment None = refl
  joined_boot f line moment (Some alloc) = refl

  joined_end : (f : Farm) (host boot : ℕ) (d : DoneItem) → joined (end_attempt f host boot d) b ≡ end_attempt (joined f b) host boot d
  joined_end f host boot d =
      joined_cond (is_live f host boot d.attempt.slot d.attempt.version) (record f { slots = changed_at f.slots d.attempt.slot (ended_row f d.exit) }) f

  joined_ends : (f : Farm) (host boot : ℕ) (ds : List DoneItem) → joined (end_all f host boot ds) b ≡ end_all (joined f b) host boot ds
  joined_ends f host boot [] = refl
  joined_ends f host boot (d ∷ ds) =
      joined_ends (end_attempt f host boot d) host boot ds ∙ ap (λ (g : Farm). end_all g host boot ds) (joined_end f host boot d)

  joined_heard : (f : Farm) (heard : HeardAct) (moment : ℕ) (o : Option ℕ) → joined (after_heard f heard moment o) b ≡ after_heard (joined f b) heard moment o
  joined_heard f heard moment None = refl
  joined_heard f heard moment (Some host) = joined_ends (record f { hosts = changed_at f.hosts host (heard_row heard.seq moment) }) host heard.boot heard.done

  pub joined_submit : (f : Farm) (spec : JobSpec) (o : Option ℕ) → joined (after_submit f spec o) b ≡ after_submit (joined f b) spec o
  joined_submit f spec None = refl
  joined_submit f spec (Some show) = refl

  joined_lock : (f : Farm) (lock : LockState) (o : Option ℕ) → joined (after_lock f lock o) b ≡ after_lock (joined f b) lock o
  joined_lock f lock None = refl
  joined_lock f lock (Some host) = refl

  joined_proc : (f : Farm) (slot : ℕ) (o : Option ProcRow) → joined (with_proc f slot o) b ≡ with_proc (joined f b) slot o
  joined_proc f slot None = refl
  joined_proc f slot (Some p) = refl

  joined_pause : (f : Farm) (paused : Bool) (o : Option JobRow) → joined (with_paused f paused o) b ≡ with_paused (joined f b) paused o
  joined_pause f paused None = refl
  joined_pause f paused (Some j) = refl

  joined_kill : (f : Farm) (o : Option JobRow) → joined (with_killed f o) b ≡ with_killed (joined f b) o
  joined_kill f None = refl
  joined_kill f (Some j) = refl

  joined_row : (f : Farm) (change : SlotRow → SlotRow) (o : Option ℕ) → joined (with_row_at f change o) b ≡ with_row_at (joined f b) change o
  joined_row f change None = refl
  joined_row f change (Some slot) = refl

  -- the same frame is named
  pub joined_named : (f : Farm) (p : FramePlace) → slot_named (joined f b) p ≡ slot_named f p
  unfolding slot_named
  joined_named f p = refl

  joined_frame : (f : Farm) (p : FramePlace) (change : SlotRow → SlotRow) → joined (with_frame f p change) b ≡ with_frame (joined f b) p change
  joined_frame f p change = joined_row f change (slot_named f p) ∙ ap (with_row_at (joined f b) change) (sym (joined_named f p))

  joined_act : (f : Farm) (moment : ℕ) (act : Act) → joined (after_act f moment act) b ≡ after_act (joined f b) moment act
  joined_act f moment Opened = refl
  joined_act f moment (Show name) = refl
  joined_act f moment (Alloc facility tag) = refl
  joined_act f moment (Sub line) = joined_sub f line (sub_named f line)
  joined_act f moment (Limit name most) = joined_limit f name most (limit_named f name)
  joined_act f moment (Boot line) = joined_boot (expire f moment) line moment (alloc_named f line.alloc)
  joined_act f moment (Heard heard) = joined_heard (expire f moment) heard moment (host_named f heard.host)
  joined_act f moment (Submit spec) = joined_submit f spec (show_named f spec.show)
  joined_act f moment (AddDepend spec) = refl
  joined_act f moment (DropDepend depend) = refl
  joined_act f moment (Pause job paused) = joined_pause f paused (pending_named f job)
  joined_act f moment (KillJob job) = joined_kill f (pending_named f job)
  joined_act f moment (KillFrame p) = joined_frame f p (stopped_row Dead)
  joined_act f moment (EatFrame p) = joined_frame f p (stopped_row Eaten)
  joined_act f moment (RetryFrame p) = joined_frame f p retried_row
  joined_act f moment (Lock host lock) = joined_lock f lock (host_named f host)
  joined_act f moment Tick = refl
  joined_act f moment (Book slot host) = joined_proc f slot (new_proc f slot host moment)

  -- the farm after the act
  pub joined_acted : (f : Farm) (e : Entry) → joined (acted f e) b ≡ acted (joined f b) e
  joined_acted f e = joined_act (at_moment f (moment_of f e.moment)) (moment_of f e.moment) e.act
