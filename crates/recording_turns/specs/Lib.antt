pub mod Resting
pub mod Owing
pub mod Sizes
pub mod Placed
pub mod Carrying
