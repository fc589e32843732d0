pub mod Allowed
pub mod Shown
pub mod Stepping
pub mod Claims
pub mod Looked
pub mod Found
