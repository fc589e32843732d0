-- As many attempts end as a job is killed as it has frames that run.
use Rattle.std.proofs.Common.{◌≡◌, ◌∙◌, ◌+◌, ℕ, suc, Bool, true, false, ◌&&◌, not, cond, eqb, List, [], ◌∷◌, length, Option, Some, None, refl, sym, ap}
use Rattle.std.specs.Prelude.{count_by, filter, is_some}
use Rattle.std.specs.List.{slice_get}
use Rattle.std.proofs.lemmas.List.Sums.{length-filter, sum_by-cons}
use Rattle.farm_types.specs.declared.attempt.ProcRow.{ProcRow}
use Rattle.farm_types.specs.declared.slot_row.Frame.{Frame}
use Rattle.farm_types.specs.declared.slot_row.SlotRow.{SlotRow}
use Rattle.farm_types.specs.declared.states.FrameState.{FrameState}
use Rattle.farm_types.specs.declared.states.FrameState.TheVariants as frame_state
use Rattle.farm_types.specs.Depends.{is_done_state}
use Rattle.farm_types.specs.Farm.{Farm, for_some}
use Rattle.farm_types.specs.Operators.{has_attempt, is_left_of}
use Rattle.farm_types.specs.Run.{HasItsAttempt, IsAttemptOf, IsSound}
use Rattle.job_book.specs.Book.{count_in, is_in, number_of}

-- ---- one slot

-- a frame of the job (`own`) that isn't done and has an attempt is one that runs
state_alike : (own : Bool) (place version : ℕ) (state : FrameState) (p : Option ProcRow) → IsAttemptOf place version state p
    → ((own && not (is_done_state state)) && is_some p) ≡ (own && eqb (number_of state) (number_of frame_state.Running))
state_alike false place version state p has = refl
state_alike true place version frame_state.Running None has = absurd has
state_alike true place version frame_state.Running (Some q) has = refl
state_alike true place version other None has = refl
state_alike true place version other (Some q) has = absurd has

slot_alike : (job place version : ℕ) (o : Option Frame) (p : Option ProcRow) → HasItsAttempt place version o p
    → (for_some o (λ (x : Frame). eqb x.job job && not (is_done_state x.state)) && is_some p) ≡ for_some o (is_in job frame_state.Running)
slot_alike job place version None p has = refl
slot_alike job place version (Some x) p has = state_alike (eqb x.job job) place version x.state p has

-- ---- all slots

abbrev weight : Bool → ℕ
weight b = cond b 1 0

-- as many items pass one test as another that agrees on each
count_alike : {X : Type 0} (p q : X → Bool) (xs : List X) → ((i : ℕ) (x : X) → slice_get xs i ≡ Some x → p x ≡ q x) → count_by p xs ≡ count_by q xs
count_alike p q [] same = refl
count_alike p q (x ∷ xs) same =
    let here : weight (p x) ≡ weight (q x) = ap weight (same 0 x refl) in
    let rest : count_by p xs ≡ count_by q xs = count_alike p q xs (λ i y at. same (suc i) y at) in
    sum_by-cons (λ y. weight (p y)) x xs ∙ (ap (λ (n : ℕ). n + count_by p xs) here ∙ (ap (λ (n : ℕ). weight (q x) + n) rest ∙ sym (sum_by-cons (λ y. weight (q y)) x xs)))

abbrev ends_of : ℕ → SlotRow → Bool
ends_of job s = is_left_of job s && has_attempt s

pub killed_count : (f : Farm) (job : ℕ) → IsSound f → count_in job frame_state.Running f.slots ≡ length (filter (λ (s : SlotRow). is_left_of job s && has_attempt s) f.slots)
killed_count f job sound =
    sym (length-filter (ends_of job) f.slots
    ∙ count_alike (ends_of job) (λ (s : SlotRow). for_some s.frame (is_in job frame_state.Running)) f.slots (λ i s at. slot_alike job i s.version s.frame s.proc (sound.attempts i s at)))
