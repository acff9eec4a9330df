-- What the contracts of `lookups` cite.
pub mod Lookups
