pub mod Ready
pub mod Rounds
pub use Rattle.booking_recorder
pub use Rattle.booking_recorder.specs.farm_core
pub use Rattle.booking_recorder.specs.recorder
pub use Rattle.booking_recorder.specs.recording_turns
