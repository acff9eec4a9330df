-- The laws of the rules cite the book and the form of a record.
pub mod Slots
pub mod Deadlines
