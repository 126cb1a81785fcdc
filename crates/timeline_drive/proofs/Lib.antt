pub mod ReportLemmas
pub mod ReadBack
pub mod EscapeLemmas
