-- What a change would meet and open.
pub mod Counted
pub mod Following
pub mod NothingOpens
pub mod Ordered
pub mod Telling
pub mod Tried
