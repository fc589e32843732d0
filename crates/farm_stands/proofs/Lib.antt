pub mod Covering
pub mod Finishing
pub mod Fitting
pub mod Turning
