-- A reply is read back from its own text.
pub mod LineRefusedBack
pub mod ListBack
pub mod OkBack
pub mod RefusedBack
pub mod RepliesBack
pub mod ReportBack
pub mod RowsBack
