pub mod LineText
pub mod Reading
pub mod Laws
pub mod Listings
pub mod Details
pub mod UserRows
