pub mod Changes
pub mod Examples
pub mod Keys
pub mod Lists
pub mod Recovery
pub mod RecoveryExamples
pub mod Rows
pub mod Seen
