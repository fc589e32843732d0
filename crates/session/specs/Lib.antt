pub mod Hints
pub mod Loads
pub mod Opening
pub mod Seats
pub mod Sessions
pub mod Stops
pub mod Words
