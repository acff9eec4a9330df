-- The crate's laws.
pub mod Octets
pub mod Fit
pub mod Laws
pub mod Changed
pub mod Kept
pub mod Keys
