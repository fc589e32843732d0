pub mod Booking
pub mod Steps
pub mod Calls
