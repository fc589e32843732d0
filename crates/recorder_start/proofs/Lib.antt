pub mod Opens
pub mod Begins
