mod RoundLemmas
mod MadeLemmas
mod CallLemmas
mod EndLemmas
mod NumberLemmas
mod WordLemmas
mod ProgramLemmas
