-- The theorem over the whole table of edges.
pub mod Edges
