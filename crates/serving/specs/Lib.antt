pub mod Serving
pub mod Words
pub use Rattle.session
pub use Rattle.shared_sessions
