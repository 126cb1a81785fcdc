pub mod Seals
pub mod Commands
pub mod Tables
pub mod Durable
pub mod Groups
pub mod Compacting
pub mod Renewing
pub mod Opened
