pub mod AnswerLemmas
mod BookingLemmas
mod EntryLemmas
mod HearLemmas
pub mod FewEntries
mod LegalLemmas
mod LineLemmas
mod OutcomeLemmas
pub mod ReportLemmas
mod ToldLemmas
mod WalkLemmas
mod WrittenLaunches
