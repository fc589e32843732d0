-- Judging the rows of a store, those of depends too.
pub mod Ends
pub mod Judged
pub mod Kept
pub mod Marks
pub mod SelfWaits
