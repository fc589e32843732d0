pub mod Records
pub mod Machine
