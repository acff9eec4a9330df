-- The calls as definitions.
pub mod Calls
