pub mod Lines
pub mod Names
pub mod Options
pub mod Notes
pub mod Laws
pub mod Unchecked
