-- Jobs finish, their slots become free, and finished jobs leave.
pub mod CutJobs
pub mod FinishNumbers
pub mod FinishOrder
pub mod FinishedBook
pub mod FinishedLayers
pub mod FinishedRows
pub mod FreedJob
pub mod FreedSlots
pub mod LeftJobs
