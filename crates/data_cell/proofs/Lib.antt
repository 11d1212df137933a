-- A cell by its parts (Parts), what is read of a cell (Gives), and document 01's cell (Vectors).
pub mod Parts
pub mod Gives
pub mod Vectors
