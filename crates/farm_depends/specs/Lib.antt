pub mod Coming
pub mod Completing
pub mod Follow
pub mod FollowRows
pub mod Placed
pub mod Restored
pub mod Retrying
