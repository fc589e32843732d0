pub mod Calls
pub mod Carries
pub mod Memory
