-- A depend comes.
pub mod AddedDepend
pub mod Held
pub mod Marked
