pub mod RowLaws
pub mod KeepingLaws
mod TableLemmas
