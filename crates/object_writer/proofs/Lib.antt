pub mod DataBack
pub mod Members
pub mod Newlines
pub mod Printed
pub mod Pushed
pub mod Plain
