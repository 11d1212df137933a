-- The loops over clustering columns (Loops), what is read (Gives), and document 01's row (Vectors).
pub mod Loops
pub mod Gives
pub mod Vectors
