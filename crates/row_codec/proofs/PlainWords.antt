-- The bytes of states' words stand for themselves.
use Rattle.std.proofs.Common.{◌≡◌, true, refl}
use Rattle.farm_types.specs.declared.states.FrameState.{FrameState}
use Rattle.farm_types.specs.declared.states.FrameState.TheVariants as frame_state
use Rattle.object_writer.specs.Written.{is_plain}
use Rattle.state_names.specs.Words.{state_word}

pub state_plain : (s : FrameState) → is_plain (state_word s) ≡ true
state_plain frame_state.Waiting = refl
state_plain frame_state.Setup = refl
state_plain frame_state.Running = refl
state_plain frame_state.Succeeded = refl
state_plain frame_state.Depend = refl
state_plain frame_state.Dead = refl
state_plain frame_state.Eaten = refl
