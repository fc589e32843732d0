pub mod Index
pub mod Ranges
