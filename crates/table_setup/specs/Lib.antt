pub mod Sums
pub mod Sealed
pub mod Host
pub mod ForProofs
