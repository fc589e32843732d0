-- What an entry leaves of a frame's layer and job.
use Rattle.std.proofs.Common.{◌≡◌, ℕ, Bool, true, ◌&&◌, eqb, List, [], ◌∷◌, Option, Some, None, refl, ap, ◌∙◌}
use Rattle.farm_types.specs.declared.attempt.DoneItem.{DoneItem}
use Rattle.farm_types.specs.declared.boot.BootLine.{BootLine}
use Rattle.farm_types.specs.declared.entry.Act.{Act}
use Rattle.farm_types.specs.declared.entry.Act.TheVariants.{Sub, Limit, Boot, Heard, Submit, Pause, KillJob, KillFrame, EatFrame, RetryFrame, Lock, Book}
use Rattle.farm_types.specs.declared.entry.Entry.{Entry}
use Rattle.farm_types.specs.declared.entry.HeardAct.{HeardAct}
use Rattle.farm_types.specs.declared.job.JobSpec.{JobSpec}
use Rattle.farm_types.specs.declared.rows.JobRow.{JobRow}
use Rattle.farm_types.specs.declared.rows.LayerRow.{LayerRow}
use Rattle.farm_types.specs.declared.attempt.ProcRow.{ProcRow}
use Rattle.farm_types.specs.declared.slot_row.SlotRow.{SlotRow}
use Rattle.farm_types.specs.declared.states.FrameState.TheVariants as frame_state
use Rattle.farm_types.specs.declared.states.LockState.{LockState}
use Rattle.farm_types.specs.declared.sub_line.SubLine.{SubLine}
use Rattle.farm_types.specs.Booking.{is_pending}
use Rattle.farm_types.specs.DependActs.{pending_named}
use Rattle.farm_types.specs.Farm.{Farm, alloc_named, changed_at, host_named, job_at, layer_at, layer_in, limit_named, show_named}
use Rattle.farm_types.specs.Hosts.{heard_row}
use Rattle.farm_types.specs.Jobs.{layer_rows}
use Rattle.farm_types.specs.Operators.{retried_row, slot_named, stopped_row, with_killed, with_paused, with_row_at}
use Rattle.farm_types.specs.Run.{IsLegalStep}
use Rattle.farm_types.specs.Step.{acted, after_act, after_boot, after_heard, after_limit, after_lock, after_sub, after_submit, at_moment, end_all, end_attempt, expire, followed, is_live, limits_of, moment_of, new_proc, sub_named, with_proc}
use Rattle.farm_types.proofs.Passes.{cond_each}
use Rattle.farm_law.proofs.Ended.{ended}
use Rattle.farm_law.proofs.FollowLaws.{followed_law}
use Rattle.farm_law.proofs.Follows.{act_follows}
use Rattle.farm_law.proofs.KeepsLaw.{law_then}
use Rattle.farm_law.proofs.KeptJobsLists.{found_more}
use Rattle.farm_law.proofs.SafeRuns.{acted_law}
use Rattle.entry_law.proofs.SlotGoes.{Belongs}

-- The layer is there still, as it was, and a job that is pending is so, of its show.
pub record RowsOf (f g : Farm) (p : Belongs) : Type 0 where
  pub layer : (l : LayerRow) → layer_at f p.job p.layer ≡ Some l → layer_at g p.job p.layer ≡ Some l
  pub job : (j : JobRow) → job_at f p.job ≡ Some j → is_pending j.state ≡ true
      → (now : JobRow) × (job_at g p.job ≡ Some now) × (now.show ≡ j.show) × (is_pending now.state ≡ true)

pub rows_same : (f : Farm) (p : Belongs) → RowsOf f f p
rows_same f p = record { layer = λ l at. at; job = λ j at pending. (j, at, refl, pending) }

pub rows_then : (f g k : Farm) (p : Belongs) → RowsOf f g p → RowsOf g k p → RowsOf f k p
rows_then f g k p first second =
    record {
      layer = λ l at. second.layer l (first.layer l at);
      job = λ j at pending.
          let mid = first.job j at pending in
          let end = second.job mid.0 mid.1 mid.3 in
          (end.0, end.1, end.2 ∙ mid.2, end.3);
    }

-- ---- layers

-- each layer is found as it was
abbrev LayersStay : List LayerRow → List LayerRow → Type 0
LayersStay olds news = (job place : ℕ) (l : LayerRow) → layer_in olds job place ≡ Some l → layer_in news job place ≡ Some l

alike : (olds news : List LayerRow) → news ≡ olds → LayersStay olds news
alike olds news same job place l at = ap (λ (ls : List LayerRow). layer_in ls job place) same ∙ at

sub_layers : (f : Farm) (line : SubLine) (o : Option ℕ) → (after_sub f line o).layers ≡ f.layers
sub_layers f line None = refl
sub_layers f line (Some sub) = refl

limit_layers : (f : Farm) (name : List ℕ) (most : ℕ) (o : Option ℕ) → (after_limit f name most o).layers ≡ f.layers
limit_layers f name most None = refl
limit_layers f name most (Some limit) = refl

boot_layers : (f : Farm) (line : BootLine) (moment : ℕ) (o : Option ℕ) → (after_boot f line moment o).layers ≡ f.layers
boot_layers f line moment None = refl
boot_layers f line moment (Some alloc) = refl

end_layers : (f : Farm) (host boot : ℕ) (ds : List DoneItem) → (end_all f host boot ds).layers ≡ f.layers
end_layers f host boot [] = refl
end_layers f host boot (d ∷ ds) =
    end_layers (end_attempt f host boot d) host boot ds
    ∙ cond_each (λ (g : Farm). g.layers ≡ f.layers) (is_live f host boot d.attempt.slot d.attempt.version) (ended f d.attempt.slot d.exit) f refl refl

heard_layers : (f : Farm) (heard : HeardAct) (moment : ℕ) (o : Option ℕ) → (after_heard f heard moment o).layers ≡ f.layers
heard_layers f heard moment None = refl
heard_layers f heard moment (Some host) = end_layers (record f { hosts = changed_at f.hosts host (heard_row heard.seq moment) }) host heard.boot heard.done

lock_layers : (f : Farm) (lock : LockState) (o : Option ℕ) → (after_lock f lock o).layers ≡ f.layers
lock_layers f lock None = refl
lock_layers f lock (Some host) = refl

pause_layers : (f : Farm) (paused : Bool) (o : Option JobRow) → (with_paused f paused o).layers ≡ f.layers
pause_layers f paused None = refl
pause_layers f paused (Some j) = refl

kill_layers : (f : Farm) (o : Option JobRow) → (with_killed f o).layers ≡ f.layers
kill_layers f None = refl
kill_layers f (Some j) = refl

row_layers : (f : Farm) (change : SlotRow → SlotRow) (o : Option ℕ) → (with_row_at f change o).layers ≡ f.layers
row_layers f change None = refl
row_layers f change (Some slot) = refl

proc_layers : (f : Farm) (slot : ℕ) (o : Option ProcRow) → (with_proc f slot o).layers ≡ f.layers
proc_layers f slot None = refl
proc_layers f slot (Some p) = refl

submit_layers : (f : Farm) (spec : JobSpec) (o : Option ℕ) → LayersStay f.layers (after_submit f spec o).layers
submit_layers f spec None job place l at = at
submit_layers f spec (Some show) job place l at =
    found_more (λ (k : LayerRow). eqb k.job job && eqb k.place place) f.layers (layer_rows f.next_job (limits_of f.limits spec.layers) 0 spec.layers) l at

act_layers : (f : Farm) (moment : ℕ) (act : Act) → LayersStay f.layers (after_act f moment act).layers
act_layers f moment (Sub line) = alike f.layers (after_act f moment (Sub line)).layers (sub_layers f line (sub_named f line))
act_layers f moment (Limit name most) = alike f.layers (after_act f moment (Limit name most)).layers (limit_layers f name most (limit_named f name))
act_layers f moment (Boot line) = alike f.layers (after_act f moment (Boot line)).layers (boot_layers (expire f moment) line moment (alloc_named f line.alloc))
act_layers f moment (Heard heard) = alike f.layers (after_act f moment (Heard heard)).layers (heard_layers (expire f moment) heard moment (host_named f heard.host))
act_layers f moment (Submit spec) = submit_layers f spec (show_named f spec.show)
act_layers f moment (Pause job paused) = alike f.layers (after_act f moment (Pause job paused)).layers (pause_layers f paused (pending_named f job))
act_layers f moment (KillJob job) = alike f.layers (after_act f moment (KillJob job)).layers (kill_layers f (pending_named f job))
act_layers f moment (KillFrame p) = alike f.layers (after_act f moment (KillFrame p)).layers (row_layers f (stopped_row frame_state.Dead) (slot_named f p))
act_layers f moment (EatFrame p) = alike f.layers (after_act f moment (EatFrame p)).layers (row_layers f (stopped_row frame_state.Eaten) (slot_named f p))
act_layers f moment (RetryFrame p) = alike f.layers (after_act f moment (RetryFrame p)).layers (row_layers f retried_row (slot_named f p))
act_layers f moment (Lock host lock) = alike f.layers (after_act f moment (Lock host lock)).layers (lock_layers f lock (host_named f host))
act_layers f moment (Book slot host) = alike f.layers (after_act f moment (Book slot host)).layers (proc_layers f slot (new_proc f slot host moment))
act_layers f moment act = alike f.layers f.layers refl

-- ---- an entry, before jobs finish

pub rows_left : (f : Farm) (e : Entry) → IsLegalStep f e → (p : Belongs) → RowsOf f (followed e.act (acted f e)) p
rows_left f e legal p =
    let moment = moment_of f e.moment in
    let now = followed e.act (acted f e) in
    let law = law_then f (acted f e) now (acted_law f e legal.condition) (followed_law e.act (acted f e)) in
    record {
      layer = λ l at.
          ap (λ (g : Farm). layer_at g p.job p.layer) (act_follows e.act (acted f e)).rest
          ∙ act_layers (at_moment f moment) moment e.act p.job p.layer l at;
      job = λ j at pending.
          let found = law.rows.jobs p.job j at pending in
          (found.0, found.1, found.2, found.4);
    }
