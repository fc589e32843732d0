-- The book of rows that are given.
pub mod OwnedLayers
pub mod RestoredBook
pub mod RestoredCounts
pub mod RestoredIndex
pub mod RestoredKeys
pub mod RestoredNames
