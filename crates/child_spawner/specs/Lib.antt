pub mod Children
pub mod Exits
pub mod Scripts
