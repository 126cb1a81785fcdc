pub mod Machine
pub mod Shown
pub mod Run
pub mod StepLaw
pub mod Sound
pub mod Kept
