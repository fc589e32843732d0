pub mod Sessions
pub mod Steps
pub use Rattle.shared_lines.specs.line_answers.specs.booking_recorder
pub use Rattle.shared_lines.specs.shared_rounds
pub use Rattle.shared_lines.specs.shared_rounds.specs.shared_bot
