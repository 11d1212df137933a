-- The columns of a prefix (Counts), what is read (Gives), and markers that are read and refused (Vectors).
pub mod Counts
pub mod Gives
pub mod Vectors
