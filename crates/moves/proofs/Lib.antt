-- The crate's laws.
pub mod Laws
pub mod Records
pub mod Carries
pub mod Moving
