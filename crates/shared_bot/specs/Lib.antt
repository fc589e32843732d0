pub mod Passes
pub use Rattle.dispatcher.specs.booking_recorder
pub use Rattle.dispatcher.specs.farm_core
pub use Rattle.dispatcher.specs.recorder
pub use Rattle.dispatcher.specs.recording_turns
