pub mod Booted
pub mod KeptHosts
pub mod Named
pub mod Oldest
pub mod Restored
pub mod Unheard
