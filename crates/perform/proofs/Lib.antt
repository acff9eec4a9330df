-- The crate's laws.
pub mod Runs
pub mod Repeats
pub mod Switches
pub mod Performs
