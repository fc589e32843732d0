-- Jobs that finish one after the other, and those that leave.
pub mod Closes
pub mod EachTurn
pub mod Finished
pub mod FinishedFits
pub mod Leavers
pub mod LeavingAt
pub mod MayLaw
pub mod OthersStay
pub mod ToFinish
pub mod Turns
