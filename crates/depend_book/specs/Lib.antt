pub mod Book
pub mod Fits
pub mod Forgotten
pub mod Inside
pub mod Restored
pub mod Rows
pub mod RowsInside
pub mod Satisfied
