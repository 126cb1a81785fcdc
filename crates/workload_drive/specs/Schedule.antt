-- What an input is as a schedule: what its lines ask for, its steps, and its report.
pub mod Orders
pub mod Steps
pub mod Report
pub mod ForProofs
