pub mod RangeLemmas
pub mod NewlineLemmas
pub mod StepLemmas
pub mod AnswerLemmas
