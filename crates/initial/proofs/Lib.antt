-- The crate's laws.
pub mod Initial
