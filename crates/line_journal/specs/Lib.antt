pub mod Device
pub mod Journal
pub mod KillOnly
pub mod Lines
pub mod Opened
pub mod Past
pub mod Renewed
