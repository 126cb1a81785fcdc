pub mod Log
pub mod Disk
pub mod Cuts
