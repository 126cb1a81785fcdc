pub mod Linear
pub mod Ordering
pub mod Bounding
pub mod Reaching
pub mod Beginning
pub mod Naming
pub mod Finding
pub mod Loading
pub mod Refusing
pub mod Resting
pub mod Managing
pub mod Telling
mod Keeping
mod Holding
