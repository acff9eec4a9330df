-- The crate's law.
pub mod Laws
