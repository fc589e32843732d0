pub mod Batches
pub mod Faults
pub mod Recording
pub mod Telling
