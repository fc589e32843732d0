pub mod Faults
pub mod RowExamples
pub mod RowFields
pub mod RowLaws
pub mod RowReading
