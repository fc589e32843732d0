pub mod Counting
pub mod Entries
pub mod OneJob
pub mod Restored
