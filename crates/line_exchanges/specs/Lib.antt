pub mod Calls
pub mod Exchanges
