mod CallLemmas
mod CompleteLemmas
mod EndLemmas
mod ListingLemmas
mod ProgramLemmas
mod ShownLemmas
