pub mod Holding
pub mod Rounds
pub mod Steps
pub mod Tries
pub use Rattle.shared_bot
