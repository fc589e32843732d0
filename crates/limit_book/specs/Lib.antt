pub mod Book
pub mod Inside
