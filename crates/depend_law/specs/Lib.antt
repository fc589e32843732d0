pub mod Earned
pub mod Ending
pub mod Unsettled
