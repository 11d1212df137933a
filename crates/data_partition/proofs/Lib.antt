-- What is read (Gives), and document 01's partition (Vectors).
pub mod Gives
pub mod Vectors
