pub mod ReadingLemmas
pub mod ReadBack
pub mod ListingLemmas
pub mod NeedLemmas
