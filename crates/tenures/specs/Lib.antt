pub mod Tenures
pub mod Endings
pub mod Steps
pub mod Kept
