pub mod Inside
pub mod Starts
