pub mod Commands
pub mod Help
pub mod Members
pub mod Parts
pub mod Results
