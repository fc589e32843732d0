mod FoundGroups
mod PairsLeft
