pub mod Numbers
pub mod Entries
pub mod Reports
pub mod OtherInputs
pub mod Escapes
pub mod Texts
