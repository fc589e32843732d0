pub mod Books
pub mod Rows
