pub use Rattle.depend_edges.proofs.Counts
pub mod ComingLemmas
pub mod CountFrom
pub mod GoingLemmas
pub mod Made
pub mod ProgressLemmas
pub mod Tallied
pub mod TrialLemmas
