pub mod LineLemmas
pub mod PartLemmas
pub mod ReportLemmas
