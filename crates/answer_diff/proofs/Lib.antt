pub mod AnswerLemmas
pub mod LineLemmas
