pub mod Lines
pub mod Wrapping
pub mod Configuration
pub mod CommandLine
pub mod LookUps
pub mod ForProofs
