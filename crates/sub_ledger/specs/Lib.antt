pub mod Inside
pub mod Ledger
