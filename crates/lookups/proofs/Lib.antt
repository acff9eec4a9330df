-- The crate's laws, and what a time left says of the clock.
pub mod Laws
pub mod Times
pub mod GoodLinks
