-- A live attempt is of a frame that runs, and has its slot's number and version.
use Rattle.std.proofs.Common.{◌≡◌, ℕ, true, Option, Some, None, refl}
use Rattle.farm_types.specs.declared.attempt.ProcRow.{ProcRow}
use Rattle.farm_types.specs.declared.slot_row.Frame.{Frame}
use Rattle.farm_types.specs.declared.states.FrameState.{FrameState}
use Rattle.farm_types.specs.declared.states.FrameState.TheVariants.{Waiting, Setup, Running, Succeeded, Depend, Dead, Eaten}
use Rattle.farm_types.specs.DependActs.{is_running}
use Rattle.farm_types.specs.Run.{HasItsAttempt, IsAttemptOf}

pub state_runs : (place version : ℕ) (state : FrameState) (p : ProcRow) → IsAttemptOf place version state (Some p)
    → (is_running state ≡ true) × (p.slot ≡ place) × (p.version ≡ version)
state_runs place version Running p has = (refl, has.0, has.1)
state_runs place version Waiting p has = absurd has
state_runs place version Setup p has = absurd has
state_runs place version Succeeded p has = absurd has
state_runs place version Depend p has = absurd has
state_runs place version Dead p has = absurd has
state_runs place version Eaten p has = absurd has

pub frame_runs : (place version : ℕ) (frame : Option Frame) (p : ProcRow) → HasItsAttempt place version frame (Some p)
    → (x : Frame) × (frame ≡ Some x) × (is_running x.state ≡ true) × (p.slot ≡ place) × (p.version ≡ version)
frame_runs place version None p has = absurd has
frame_runs place version (Some x) p has = let runs = state_runs place version x.state p has in (x, refl, runs.0, runs.1, runs.2)
