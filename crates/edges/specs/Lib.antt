-- The table of edges.
pub mod Edges
