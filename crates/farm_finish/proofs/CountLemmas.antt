-- Which jobs finish, by the counts of their frames.
pub mod AfterBase
pub mod AfterFollow
pub mod CompletedJobs
pub mod CountedDown
pub mod CountedRows
pub mod EndsLaw
pub mod FinishingLaw
pub mod InOrder
pub mod LaidRows
pub mod LeftAfter
pub mod LeftFrames
pub mod Stands
