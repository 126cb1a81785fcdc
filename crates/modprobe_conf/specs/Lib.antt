pub mod Configuration
pub mod Idle
pub mod Joined
pub mod ForProofs
