-- What the contracts of `initial` cite.
pub mod Initial
