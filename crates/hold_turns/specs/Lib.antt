pub mod Events
pub mod Views
pub mod Lines
pub mod Acts
pub mod Rule
pub mod Course
