pub mod Demonstration
pub mod Finishing
pub mod Listing
pub mod Lives
pub mod Waiting
