-- The crate's laws and what holds of every call.
pub mod Laws
pub mod Theorems
pub mod Ending
