pub mod Lines
pub mod Options
pub mod Asked
pub mod Endings
