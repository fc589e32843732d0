pub mod MadeRows
pub mod MadeLists
pub mod Faultless
pub mod FrameFits
pub mod OneSlotMore
pub mod RowOrder
mod Exactness
mod SeenRoom
mod Turned
