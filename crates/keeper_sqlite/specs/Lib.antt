pub mod Remains
pub mod Table
pub mod Told
