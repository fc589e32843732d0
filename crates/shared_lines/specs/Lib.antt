pub mod Answered
pub mod Beside
pub mod Hearing
pub mod Hindered
pub mod Reported
pub use Rattle.shared_rounds
pub use Rattle.line_answers
