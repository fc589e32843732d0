mod Booked
pub mod Candidates
mod Journaling
mod Told
mod UnderWay
mod Walking
