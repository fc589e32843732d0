-- Recovery: the farm of rows of bytes.
pub mod Drafts
pub mod Migration
pub mod Recovered
