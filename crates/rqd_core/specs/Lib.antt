pub mod Keeping
pub mod Life
pub mod Replies
