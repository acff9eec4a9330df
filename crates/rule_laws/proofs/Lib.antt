-- The laws of the rules, by act.
pub mod Outcomes
pub mod Keeps
pub mod Sound
pub mod Slots
pub mod Rows
pub mod Leaves
pub mod Deadlines
pub mod Tells
