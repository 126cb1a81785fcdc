pub mod NameLemmas
pub mod PlaceLemmas
pub mod PatternLemmas
pub mod KeyLemmas
pub mod MergeLemmas
pub mod LiteralLemmas
pub mod FindLemmas
