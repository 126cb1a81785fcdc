pub mod ChainLemmas
pub mod CommandLemmas
mod TableLemmas
mod MomentLemmas
pub mod KeptLemmas
pub mod GroupLemmas
mod CompactLemmas
mod RenewLemmas
mod SizeLemmas
