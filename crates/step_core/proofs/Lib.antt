pub mod Shown
pub mod Soundness
pub mod Lines
pub mod WholeSteps
pub mod Premises
pub mod RunLaws
