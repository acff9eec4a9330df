-- What demand 3 says.
pub mod Calls
pub mod Story
pub mod Sent
pub mod Statement
pub mod Needed
