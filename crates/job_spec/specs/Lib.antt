pub mod SpecResults
