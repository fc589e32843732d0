-- A job is placed: the free slots, the frames in them, and what the book keeps.
pub mod FreePlaces
pub mod FreeSlots
pub mod LayerLists
pub mod Names
pub mod NewNumber
pub mod Placed
pub mod PlacedLayers
pub mod PlacedWaiting
pub mod Putting
