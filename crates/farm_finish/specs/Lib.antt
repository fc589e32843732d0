pub mod Adding
pub mod AfterAct
pub mod Closing
pub mod Finishing
pub mod Gone
pub mod Versions
