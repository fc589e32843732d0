pub mod Bookable
pub mod MayRecord
pub mod Leaving
pub mod Finding
pub mod Allowed
pub mod Writing
