pub mod Statuses
pub mod Holders
