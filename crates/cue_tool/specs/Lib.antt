pub mod Answers
pub mod Calls
pub mod Listings
pub mod Programs
