-- Each live attempt is within its limits, on a host that is there, of a frame of a job that is there.
use Rattle.std.proofs.Common.{◌≡◌, ℕ, ◌<◌, ◌≤◌, true, eqb, leb, length, Option, Some, sym, subst, arith}
use Rattle.std.specs.Prelude.{◌&&◌}
use Rattle.std.specs.List.{find, slice_get}
use Rattle.std.proofs.lemmas.Bool.{eqb-true, leb-true}
use Rattle.std.proofs.lemmas.Option.{slice_get_within}
use Rattle.farm_types.specs.declared.attempt.ProcRow.{ProcRow}
use Rattle.farm_types.specs.declared.limits.TheConstants.{LAST_SLOT, LAST_VERSION, LEAST_CORES, LEAST_MEMORY, MOST_CORES, MOST_MEMORY}
use Rattle.farm_types.specs.declared.rows.JobRow.{JobRow}
use Rattle.farm_types.specs.declared.rows.LayerRow.{LayerRow}
use Rattle.farm_types.specs.declared.slot_row.Frame.{Frame}
use Rattle.farm_types.specs.declared.slot_row.SlotRow.{SlotRow}
use Rattle.farm_types.specs.Farm.{Farm, job_at, for_any, layer_in}
use Rattle.farm_types.specs.Kept.{KeepsRows, for_both, has_amounts, is_formed_job, is_formed_layer, is_kept_frame, is_kept_slot, is_of_pending, is_on_host, is_pending_job}
use Rattle.farm_types.specs.Limits.{IsBetween}
use Rattle.farm_types.specs.Run.{HasItsAttempt}
use Rattle.farm_types.proofs.Lists.{and_both, find_passes, for_some_true, found_is, list_all-at}
use Rattle.farm_law.proofs.KeptJobsFormed.{job_formed}
use Rattle.farm_law.proofs.KeptJobsRows.{FrameKept, frame_kept}
use Rattle.farm_law.proofs.RunningFrames.{frame_runs}
use Rattle.farm_lines.specs.FormedLines.{IsName}
use Rattle.reply_law.proofs.Layers.{layer_within}

module _ (f : Farm) (kept : KeepsRows f) where
  pub slot_kept : (i : ℕ) (s : SlotRow) → slice_get f.slots i ≡ Some s → (s.version ≤ LAST_VERSION) × (for_any s.frame (is_kept_frame f.layers) ≡ true)
  slot_kept i s at =
      let parts = and_both (leb s.version LAST_VERSION) (for_any s.frame (is_kept_frame f.layers)) (list_all-at (is_kept_slot f.layers) f.slots i s kept.jobs.slots_kept at) in
      (leb-true s.version LAST_VERSION parts.0, parts.1)

  pub frame_of_slot : (i : ℕ) (s : SlotRow) (x : Frame) → slice_get f.slots i ≡ Some s → s.frame ≡ Some x → FrameKept f.layers x
  frame_of_slot i s x at is = frame_kept f.layers x (subst (λ (o : Option Frame). for_any o (is_kept_frame f.layers) ≡ true) is (slot_kept i s at).1)

  -- the job of a kept frame is there, and of its form
  pub job_of_kept : (x : Frame) → FrameKept f.layers x → (j : JobRow) × (job_at f x.job ≡ Some j) × IsName j.name
  job_of_kept x keeps =
      let l = for_some_true (layer_in f.layers x.job x.layer) _ keeps.number in
      let own = and_both (eqb l.0.job x.job) (eqb l.0.place x.layer) (found_is (λ (k : LayerRow). eqb k.job x.job && eqb k.place x.layer) f.layers l.0 l.1) in
      let pending : is_of_pending f.jobs l.0.job ≡ true = find_passes (λ (k : LayerRow). eqb k.job x.job && eqb k.place x.layer) (λ (k : LayerRow). is_of_pending f.jobs k.job) f.layers l.0 kept.jobs.layers_owned l.1 in
      let here : is_of_pending f.jobs x.job ≡ true = subst (λ (n : ℕ). is_of_pending f.jobs n ≡ true) (eqb-true l.0.job x.job own.0) pending in
      let j = for_some_true (find (λ (k : JobRow). eqb k.job x.job) f.jobs) is_pending_job here in
      (j.0, j.1, (job_formed (length f.shows) j.0 (find_passes (λ (k : JobRow). eqb k.job x.job) (is_formed_job (length f.shows)) f.jobs j.0 kept.jobs.jobs_formed j.1)).name)

  pub record AttemptWithin (s : SlotRow) (p : ProcRow) : Type 0 where
    pub slot : p.slot ≤ LAST_SLOT
    pub version : p.version ≤ LAST_VERSION
    pub cores : IsBetween LEAST_CORES MOST_CORES p.cores
    pub memory : IsBetween LEAST_MEMORY MOST_MEMORY p.memory
    pub host : p.host < length f.hosts
    pub frame : (x : Frame) × (s.frame ≡ Some x) × FrameKept f.layers x

  pub attempt_within : (i : ℕ) (s : SlotRow) (p : ProcRow) → slice_get f.slots i ≡ Some s → s.proc ≡ Some p → AttemptWithin s p
  attempt_within i s p at is =
      let x = frame_runs i s.version s.frame p (subst (λ (o : Option ProcRow). HasItsAttempt i s.version s.frame o) is (kept.sound.attempts i s at)) in
      let hosted : is_on_host f.hosts p ≡ true = subst (λ (o : Option ProcRow). for_any o (is_on_host f.hosts) ≡ true) is (list_all-at (λ (t : SlotRow). for_any t.proc (is_on_host f.hosts)) f.slots i s kept.attempts.hosted at) in
      let both : for_any s.frame (λ y. for_any s.proc (has_amounts f.layers y)) ≡ true = list_all-at (λ (t : SlotRow). for_both t (has_amounts f.layers)) f.slots i s kept.attempts.measured at in
      let framed : for_any s.proc (has_amounts f.layers x.0) ≡ true = subst (λ (o : Option Frame). for_any o (λ y. for_any s.proc (has_amounts f.layers y)) ≡ true) x.1 both in
      let amounts : has_amounts f.layers x.0 p ≡ true = subst (λ (o : Option ProcRow). for_any o (has_amounts f.layers x.0) ≡ true) is framed in
      let l = for_some_true (layer_in f.layers x.0.job x.0.layer) _ amounts in
      let same = and_both (eqb p.cores l.0.cores) (eqb p.memory l.0.memory) l.2 in
      let within = layer_within l.0 (find_passes (λ (k : LayerRow). eqb k.job x.0.job && eqb k.place x.0.layer) is_formed_layer f.layers l.0 kept.jobs.layers_formed l.1) in
      let host = for_some_true (slice_get f.hosts p.host) _ hosted in
      record {
        slot = omega (arith, x.3, slice_get_within f.slots i s at, kept.jobs.slot_count);
        version = omega (arith, x.4, (slot_kept i s at).0);
        cores = subst (IsBetween LEAST_CORES MOST_CORES) (sym (eqb-true p.cores l.0.cores same.0)) within.cores;
        memory = subst (IsBetween LEAST_MEMORY MOST_MEMORY) (sym (eqb-true p.memory l.0.memory same.1)) within.memory;
        host = slice_get_within f.hosts p.host host.0 host.1;
        frame = (x.0, x.1, frame_of_slot i s x.0 at x.1);
      }
