pub mod WordLemmas
pub mod LineLemmas
pub mod BstrLemmas
pub mod NumberLemmas
pub mod PlaceLemmas
pub mod NameLemmas
