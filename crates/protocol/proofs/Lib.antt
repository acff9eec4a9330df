-- The theorems of `protocol`.
pub mod Formed
pub mod Agree
pub mod Repeats
