pub mod Launches
pub mod Reads
