-- The jobs that finish may, each at its turn.
use Rattle.std.proofs.Common.{◌≡◌, ℕ, zero, suc, ◌+◌, Bool, true, false, ◌&&◌, not, eqb, ltb, List, [], ◌∷◌, Option, Some, None, refl, sym, ◌∙◌, arith}
use Rattle.std.specs.Prelude.{is_some}
use Rattle.std.specs.List.{AllByRecursion, list_any, slice_get}
use Rattle.std.proofs.lemmas.Bool.{false≢true, lt-ltb}
use Rattle.farm_types.specs.declared.attempt.ProcRow.{ProcRow}
use Rattle.farm_types.specs.declared.slot_row.Frame.{Frame}
use Rattle.farm_types.specs.declared.slot_row.SlotRow.{SlotRow}
use Rattle.farm_types.specs.declared.states.FrameState.{FrameState}
use Rattle.farm_types.specs.declared.states.FrameState.TheVariants as frame_state
use Rattle.farm_types.specs.Depends.{is_done_state}
use Rattle.farm_types.specs.Farm.{Farm, for_some}
use Rattle.farm_types.specs.Kept.{KeepsRows, is_of_pending}
use Rattle.farm_types.specs.Operators.{is_left_of}
use Rattle.farm_types.specs.Rising.{IsRising}
use Rattle.farm_types.specs.Run.{HasItsAttempt, IsAttemptOf}
use Rattle.farm_types.specs.Step.{finish_one, lists_of}
use Rattle.farm_types.proofs.Lists.{list_all-from_at}
use Rattle.depend_law.specs.Ending.{CanEnd, Ends}
use Rattle.depend_law.proofs.FinishesAll.{later_ends}
use Rattle.depend_law.proofs.Without.{any_at}
use Rattle.farm_law.proofs.FinishedKept.{kept_one, number}
use Rattle.farm_books.specs.Finish.{has_ended}
use Rattle.farm_finish.specs.Closing.{left_in}
use Rattle.farm_finish.specs.Finishing.{CanFinishAll, MayFinish}
use Rattle.farm_finish.proofs.CountLemmas.EndsLaw.{any_left}
use Rattle.farm_finish.proofs.CountLemmas.LeftFrames.{left_sum}

-- ---- attempts

live_state : (place version : ℕ) (state : FrameState) (p : ProcRow) (b : Bool) → IsAttemptOf place version state (Some p) → (b && not (is_done_state state)) ≡ false → not (b && true) ≡ true
live_state place version state p false live left = refl
live_state place version frame_state.Running p true live left = absurd (false≢true (sym left))
live_state place version other p true live left = absurd live

row_ended : (job place version : ℕ) (frame : Option Frame) (proc : Option ProcRow) → HasItsAttempt place version frame proc → for_some frame (λ (x : Frame). eqb x.job job && not (is_done_state x.state)) ≡ false
    → not (for_some frame (λ (x : Frame). eqb x.job job) && is_some proc) ≡ true
row_ended job place version None proc live left = refl
row_ended job place version (Some x) None live left = off (eqb x.job job) where
  off : (b : Bool) → not (b && false) ≡ true
  off true = refl
  off false = refl
row_ended job place version (Some x) (Some p) live left = live_state place version x.state p (eqb x.job job) live left

none_at : (test : SlotRow → Bool) (slots : List SlotRow) (n : ℕ) (s : SlotRow) → list_any test slots ≡ false → slice_get slots n ≡ Some s → test s ≡ false
none_at test slots n s none at = by_test (test s) refl where
  by_test : (b : Bool) → test s ≡ b → test s ≡ false
  by_test true is = absurd (false≢true (sym none ∙ any_at test slots n s at is))
  by_test false is = is

-- ---- one job

pub may_one : (f : Farm) (job : ℕ) → KeepsRows f → is_of_pending f.jobs job ≡ true → list_any (is_left_of job) f.slots ≡ false → MayFinish (lists_of f) job
may_one f job rows pending none =
    let left : left_in job f.slots ≡ 0 = none_left (left_in job f.slots) (sym (any_left (is_left_of job) f.slots) ∙ none) in
    record {
      can =
          record {
            pending = pending;
            none_waits = omega (arith, left_sum job f.slots, left);
            none_live = list_all-from_at (has_ended job) f.slots (λ n s at. row_ended job n s.version s.frame s.proc (rows.sound.attempts n s at) (none_at (is_left_of job) f.slots n s none at));
          };
      slots_kept = rows.jobs.slots_kept;
      frames_once = rows.jobs.frames_once;
    }
  where
    none_left : (n : ℕ) → ltb 0 n ≡ false → n ≡ 0
    none_left zero h = refl
    none_left (suc n) h = absurd (false≢true (sym h ∙ lt-ltb 0 (suc n) (omega arith)))

-- ---- each in turn

may_all : (low : ℕ) (jobs : List ℕ) (high : ℕ) (f : Farm) → IsRising number low jobs high → AllByRecursion (Ends f) jobs → KeepsRows f → CanFinishAll (lists_of f) jobs
may_all low [] high f rise all rows = tt
may_all low (n ∷ ns) high f rise all rows =
    (may_one f n rows all.0.0 all.0.1, may_all (n + 1) ns high (finish_one n f) rise.1 (later_ends n f (n + 1) ns high (omega arith) rise.1 all.1) (kept_one n f rows all.0))

-- jobs that may finish one after the other
pub can_finish : (f : Farm) (jobs : List ℕ) → CanEnd f jobs → CanFinishAll (lists_of f) jobs
can_finish f jobs can = may_all 1 jobs f.next_job f can.rise can.ends can.settled.rows
