pub mod Names
pub mod Patterns
pub mod Aliases
pub mod Places
pub mod ForProofs
