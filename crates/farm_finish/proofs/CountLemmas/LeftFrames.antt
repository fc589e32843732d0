-- The frames of a job that are left, by the counts of its states.
use Rattle.std.proofs.Common.{◌≡◌, ℕ, ◌+◌, Bool, true, false, cond, ◌&&◌, not, eqb, List, [], ◌∷◌, Option, Some, None, refl, arith}
use Rattle.std.proofs.lemmas.List.Sums.{sum_by-cons}
use Rattle.farm_types.specs.declared.slot_row.Frame.{Frame}
use Rattle.farm_types.specs.declared.slot_row.SlotRow.{SlotRow}
use Rattle.farm_types.specs.declared.states.FrameState.{FrameState}
use Rattle.farm_types.specs.declared.states.FrameState.TheVariants as frame_state
use Rattle.farm_types.specs.Depends.{is_done_state}
use Rattle.farm_types.specs.Farm.{for_some}
use Rattle.farm_types.specs.Operators.{is_left_of}
use Rattle.job_book.specs.Book.{count_in, is_in, number_of}
use Rattle.farm_finish.specs.Closing.{left_in}

abbrev one_when : Bool → ℕ
one_when b = cond b 1 0

ways : (b : Bool) (state : FrameState) → one_when (b && eqb (number_of state) 0) + one_when (b && eqb (number_of state) 1) + one_when (b && eqb (number_of state) 2) + one_when (b && eqb (number_of state) 4) + one_when (b && eqb (number_of state) 5)
    ≡ one_when (b && not (is_done_state state))
ways false state = refl
ways true frame_state.Waiting = refl
ways true frame_state.Setup = refl
ways true frame_state.Running = refl
ways true frame_state.Succeeded = refl
ways true frame_state.Depend = refl
ways true frame_state.Dead = refl
ways true frame_state.Eaten = refl

-- what one slot adds to a count
abbrev part : ℕ → FrameState → SlotRow → ℕ
part job state s = one_when (for_some s.frame (is_in job state))

by_frame : (job : ℕ) (o : Option Frame)
    → one_when (for_some o (is_in job frame_state.Waiting)) + one_when (for_some o (is_in job frame_state.Setup)) + one_when (for_some o (is_in job frame_state.Running)) + one_when (for_some o (is_in job frame_state.Depend)) + one_when (for_some o (is_in job frame_state.Dead))
    ≡ one_when (for_some o (λ (x : Frame). eqb x.job job && not (is_done_state x.state)))
by_frame job None = refl
by_frame job (Some x) = ways (eqb x.job job) x.state

pub left_sum : (job : ℕ) (slots : List SlotRow)
    → count_in job frame_state.Waiting slots + count_in job frame_state.Setup slots + count_in job frame_state.Running slots + count_in job frame_state.Depend slots + count_in job frame_state.Dead slots ≡ left_in job slots
left_sum job [] = refl
left_sum job (s ∷ ss) =
    omega (
      arith,
      left_sum job ss,
      by_frame job s.frame,
      sum_by-cons (part job frame_state.Waiting) s ss,
      sum_by-cons (part job frame_state.Setup) s ss,
      sum_by-cons (part job frame_state.Running) s ss,
      sum_by-cons (part job frame_state.Depend) s ss,
      sum_by-cons (part job frame_state.Dead) s ss,
      sum_by-cons (λ (t : SlotRow). one_when (is_left_of job t)) s ss,
    )
