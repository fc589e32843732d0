pub mod Dials
pub mod Memory
