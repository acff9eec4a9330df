-- What holds of any list of calls whose outcomes are known, what the calls of the lists do, and the theorems on the lists.
pub mod Lists
pub mod Plays
pub mod Handshake
pub mod Fallback
