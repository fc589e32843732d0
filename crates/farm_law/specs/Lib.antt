pub mod DemoRun
pub mod Ending
