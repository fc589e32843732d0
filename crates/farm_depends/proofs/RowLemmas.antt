-- The rows that change.
pub mod CameRows
pub mod DependRows
pub mod FramesRead
pub mod MarksMade
pub mod RowsAfter
pub mod RowsDiffer
