pub mod Held
pub mod Names
pub mod Rows
