pub mod TurnLemmas
pub mod HandsLemmas
pub mod TableLemmas
pub mod KnowLemmas
pub mod CourseLemmas
