-- What the theorems of `protocol` speak of.
pub mod Model
pub mod Repeats
