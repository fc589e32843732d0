pub mod Kinds
pub mod Machine
