pub mod Book
pub mod Inside
pub mod Restore
pub mod Way
