pub mod AmountLemmas
pub mod DependLemmas
pub mod FieldLemmas
mod NumberLemmas
pub mod PointLemmas
pub mod RequestLemmas
pub mod SpecLemmas
