pub mod Drafted
pub mod Ends
pub mod InTurn
pub mod Inside
pub mod Laid
pub mod Lost
pub mod Rows
