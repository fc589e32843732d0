mod ChangedRows
pub mod EndsLemmas
pub mod Expired
pub mod FirstAttempts
mod HostLives
pub mod KilledEnds
mod KilledJobs
mod LaidRows
mod LostRows
mod OverFarm
mod Passed
mod PutRows
