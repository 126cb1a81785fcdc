pub mod Answers
pub mod Differences
pub mod Lines
