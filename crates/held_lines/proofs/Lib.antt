pub mod AllLemmas
pub mod FoundLemmas
pub mod GetLemmas
pub mod GiveLemmas
pub mod HoldLemmas
pub mod HolderLemmas
pub mod LawLemmas
pub mod ListingLemmas
pub mod ReadingLemmas
pub mod RowLemmas
pub mod SlotLemmas
pub mod TakeLemmas
pub mod ThroughLemmas
pub mod UndoLemmas
mod SameLemmas
mod SnapshotLemmas
