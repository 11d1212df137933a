-- The pairs of the contents (Pairs), and document 01's examples (Vectors).
pub mod Pairs
pub mod Vectors
