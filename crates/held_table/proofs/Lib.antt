pub mod HoldingLemmas
pub mod KeptLemmas
pub mod NameLemmas
pub mod RowLemmas
