pub mod Readers
pub mod Room
