pub mod FirstLemmas
pub mod EntryLemmas
pub mod ListLemmas
