pub mod Lines
pub mod Order
pub mod Unexpected
pub mod Members
pub mod DataRead
pub mod NumberRead
