pub mod Change
pub mod ChangedRow
pub mod Refused
pub mod RowChanges
pub mod RowsOf
pub mod SilentCounts
