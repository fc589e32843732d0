pub mod Frames
pub mod Layers
pub mod Named
pub mod RangeTexts
pub mod SubNumbers
