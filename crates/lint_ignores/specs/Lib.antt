pub mod Kinds
pub mod Ignores
pub mod Laws
