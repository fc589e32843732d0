pub mod Answering
pub mod Inside
pub mod Kept
pub mod Making
pub mod Naming
pub mod Restarting
pub mod Running
pub mod Stepping
