pub mod Counts
pub mod Plans
