pub mod Counted
pub mod Memory
