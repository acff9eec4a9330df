-- What holds of every call.
pub mod Good
pub mod Ends
pub mod Refuses
pub mod Lookups
pub mod Sound
pub mod Isolated
pub mod Isolation
pub mod Sends
pub mod DropStep
pub mod Drops
pub mod Deadlines
pub mod Elements
pub mod Moves
