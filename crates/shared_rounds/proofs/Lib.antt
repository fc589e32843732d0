mod Booked
mod Ended
mod Held
mod Planned
mod Sought
mod Tried
mod Walked
