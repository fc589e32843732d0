pub mod Faults
pub mod Rows
pub mod Keeping
pub mod Memory
pub mod Codes
pub mod Table
pub mod Remains
