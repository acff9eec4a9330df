-- What the contracts of `writer` cite, and what its theorems say.
pub mod Writer
pub mod RoundTrip
