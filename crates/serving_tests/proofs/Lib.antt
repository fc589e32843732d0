mod Kept
mod NewBots
