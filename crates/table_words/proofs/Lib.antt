pub mod LineLemmas
pub mod EndingLemmas
