pub mod Loads
pub mod Summaries
pub mod Turns
pub use Rattle.line_answers.specs.booking_recorder
pub use Rattle.line_answers.specs.farm_core
pub use Rattle.line_answers
pub use Rattle.line_answers.specs.recorder
pub use Rattle.line_answers.specs.recording_turns
