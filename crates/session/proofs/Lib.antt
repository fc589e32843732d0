mod ExchangeLemmas
mod KeeperLemmas
mod LoadLemmas
mod LoadedStore
mod MemoryLemmas
pub mod NewKeepers
mod OpenedLegal
mod OpenedRun
mod OpenedStore
mod OpenedWays
mod RunLemmas
pub mod SeatLemmas
mod SessionLemmas
mod StopLemmas
