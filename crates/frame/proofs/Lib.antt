-- Laws of `frame`.
pub mod Laws
pub mod Elements
pub mod Reading
pub mod Drawing
pub mod Shapes
pub mod Trailing
pub mod RoundTrip
pub mod Wrote
