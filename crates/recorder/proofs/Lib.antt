pub mod Recorded
pub mod Stays
pub mod Told
