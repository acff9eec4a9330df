-- The crate's laws.
pub mod GoodLinks
pub mod Possible
