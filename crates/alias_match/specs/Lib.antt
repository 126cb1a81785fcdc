pub mod Pattern
pub mod Marks
pub mod Front
pub mod Reading
pub mod Aliases
pub mod Idle
pub mod ForProofs
