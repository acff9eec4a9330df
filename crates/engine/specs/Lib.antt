-- What the contracts of `engine` cite beside the calls.
pub mod InSlot
