-- What the contracts of `message` cite.
pub mod View
pub mod Received
