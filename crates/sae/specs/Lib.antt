-- What the contracts of `sae` cite, and what its theorems say.
pub mod Interface
pub mod RoundTrip
