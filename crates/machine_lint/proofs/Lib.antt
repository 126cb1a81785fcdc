pub mod LineLemmas
pub mod ListLemmas
pub mod OptionLemmas
