pub mod Ends
pub mod Folders
pub mod Paths
pub mod Sources
