-- What the contracts that speak of refusals cite.
pub mod Causes
