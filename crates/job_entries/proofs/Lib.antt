pub mod Held
pub mod HeldLists
pub mod HeldKept
pub mod HeldFinish
pub mod RestoredEntries
pub mod RestoredLayers
