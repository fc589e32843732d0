-- The frames of a job, by their states, are at most as many as a job has.
use Rattle.std.proofs.Common.{◌≡◌, ℕ, ◌≤◌, Bool, true, false, cond, eqb, List, [], ◌∷◌, length, Option, Some, None, arith}
use Rattle.std.specs.Prelude.{◌&&◌}
use Rattle.std.specs.List.{slice_get, sum_by}
use Rattle.std.proofs.lemmas.List.Sums.{sum_by-cons}
use Rattle.farm_types.specs.declared.limits.TheConstants.{MOST_FRAMES}
use Rattle.farm_types.specs.declared.rows.JobRow.{JobRow}
use Rattle.farm_types.specs.declared.slot_row.Frame.{Frame}
use Rattle.farm_types.specs.declared.slot_row.SlotRow.{SlotRow}
use Rattle.farm_types.specs.declared.states.FrameState.{FrameState}
use Rattle.farm_types.specs.Farm.{Farm, for_some}
use Rattle.farm_types.specs.Finish.{count_where, is_frame_of}
use Rattle.farm_types.specs.Kept.{KeepsRows, is_pending_job}
use Rattle.farm_law.proofs.FinishedCounts.{own_frames}
use Rattle.reply_law.proofs.Unmet.{said_within}

one_less : (own test : Bool) → cond (own && test) 1 0 ≤ cond own 1 0
one_less true true = omega arith
one_less true false = omega arith
one_less false test = omega arith

slot_less : (job : ℕ) (test : FrameState → Bool) (o : Option Frame) → cond (for_some o (λ (x : Frame). eqb x.job job && test x.state)) 1 0 ≤ cond (for_some o (λ (x : Frame). eqb x.job job)) 1 0
slot_less job test None = omega arith
slot_less job test (Some x) = one_less (eqb x.job job) (test x.state)

fewer : (job : ℕ) (test : FrameState → Bool) (slots : List SlotRow) → count_where job test slots ≤ sum_by (λ (s : SlotRow). cond (is_frame_of job s) 1 0) slots
fewer job test [] = omega arith
fewer job test (s ∷ ss) =
    omega (
      arith,
      sum_by-cons (λ (t : SlotRow). cond (for_some t.frame (λ (x : Frame). eqb x.job job && test x.state)) 1 0) s ss,
      sum_by-cons (λ (t : SlotRow). cond (is_frame_of job t) 1 0) s ss,
      slot_less job test s.frame,
      fewer job test ss,
    )

-- of a pending job
pub count_within : (f : Farm) → KeepsRows f → (n : ℕ) (j : JobRow) → slice_get f.jobs n ≡ Some j → is_pending_job j ≡ true → (test : FrameState → Bool) → count_where j.job test f.slots ≤ MOST_FRAMES
count_within f kept n j at pending test =
    let its = kept.jobs.jobs_layered n j at pending in
    let all = own_frames j.job f.slots f.layers its.places kept.jobs.slots_kept kept.jobs.frames_once kept.jobs.frames_there in
    omega (arith, fewer j.job test f.slots, all, said_within _ (length f.shows) kept.jobs j.job)
