pub mod AllRows
pub mod Answers
pub mod Bookings
pub mod Change
pub mod Reads
pub mod Restore
