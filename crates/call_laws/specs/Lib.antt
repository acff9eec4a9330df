-- The definitions that the theorems cite.
pub mod Causes
pub mod Alike
pub mod Isolation
pub mod Writable
pub mod Drops
pub mod Deadlines
pub mod Elements
pub mod Moves
