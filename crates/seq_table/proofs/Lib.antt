pub mod Kept
pub mod Users
