pub mod Migrated
pub mod Reached
pub mod Spelled
pub mod Taken
