pub mod Words
pub mod Rounds
pub mod Steps
pub mod Runs
pub mod Programs
