pub mod Faults
pub mod Statements
pub mod Schedule
pub mod Script
pub mod Replies
pub mod Calls
pub mod ForProofs
