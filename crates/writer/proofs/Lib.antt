-- The crate's laws, what holds of every frame written, and the round trips.
pub mod Laws
pub mod Theorems
pub mod RoundTrip
