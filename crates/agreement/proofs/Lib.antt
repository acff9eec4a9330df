-- Demand 3's proof: kinds of steps, the story of an address, the protocol's acts, the theorem.
pub mod Rules
pub mod Ruled
pub mod Shows
pub mod Stock
pub mod Engine
pub mod History
pub mod Acts
pub mod Wire
pub mod Deeds
pub mod Valid
pub mod Unchanged
pub mod Demand
pub mod Written
pub mod Moved
