-- What the contracts of `frame` cite.
pub mod Frame
pub mod Elements
pub mod Writing
