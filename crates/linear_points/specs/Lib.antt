pub mod Run
pub mod Linearization
pub mod Refused
pub mod Interval
pub mod Noted
