-- Depends that are put back.
pub mod RestoredFlags
pub mod RestoredMarks
pub mod RestoredRows
