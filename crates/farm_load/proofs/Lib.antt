mod FailureLemmas
mod LaunchLemmas
mod LegalLemmas
mod RunLemmas
mod TurnLemmas
