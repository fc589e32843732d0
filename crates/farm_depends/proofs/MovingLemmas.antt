-- Frames that are put into another state.
pub mod Movable
pub mod MovedSlots
pub mod PutSlots
