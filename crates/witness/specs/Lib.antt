-- The printers, and the lists of calls.
pub mod Printers
pub mod Handshake
pub mod Fallback
