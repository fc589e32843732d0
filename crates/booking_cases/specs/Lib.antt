pub mod Holding
pub mod Working
