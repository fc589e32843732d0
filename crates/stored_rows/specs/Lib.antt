pub mod Inside
pub mod Known
pub mod SoFar
pub mod Told
