pub mod IndexLemmas
pub mod JoinLemmas
pub mod SettingsLemmas
pub mod Rows
