pub mod Seats
pub mod Holds
pub mod Steps
pub mod Calls
pub mod Alone
