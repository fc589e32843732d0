pub mod Firsts
pub mod KeptSums
pub mod KeptWays
pub mod KnownAttempts
pub mod Marks
pub mod Restored
pub mod TotalAt
