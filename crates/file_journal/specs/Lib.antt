pub mod Belief
pub mod Calls
pub mod Counts
pub mod Failing
pub mod Faults
pub mod Opening
pub mod Renewed
