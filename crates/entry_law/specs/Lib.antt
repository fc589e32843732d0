pub mod Alone
pub mod Billing
pub mod Used
