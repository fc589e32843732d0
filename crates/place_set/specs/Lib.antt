pub mod Inside
pub mod Places
