pub mod Log
pub mod Kernel
pub mod Locks
pub mod Hands
pub mod Table
pub mod Runs
