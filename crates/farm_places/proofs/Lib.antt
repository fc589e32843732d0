pub mod FoundFrames
pub mod KeptShapes
pub mod ShownParts
