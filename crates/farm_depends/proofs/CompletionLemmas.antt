-- Frames are done, or not any more; depends go; frames open.
pub mod Completed
pub mod CompletedFollows
pub mod Completions
pub mod Dropped
pub mod Flags
pub mod LeftBlocked
pub mod Listed
pub mod MetDropped
pub mod MetNow
pub mod NewlyDone
pub mod NoneMet
pub mod Opens
pub mod Reopened
pub mod Rests
pub mod RetriedFollows
pub mod Undepended
