mod CountedHosts
mod DraftedRows
mod FramesPut
mod HeardAlone
mod HostsStay
mod KilledAttempts
mod JobsSet
mod LimitsSet
mod LostLives
mod MadeChanges
mod OperatedFrames
mod OperatedJobs
mod OwnAttempts
mod PlannedBoots
mod RowsPut
pub mod FreeSlots
