mod LoadEnds
mod LoadFormed
mod LoadOpens
mod LoadRange
mod LoadTaken
mod LoadWaits
mod Numbers
