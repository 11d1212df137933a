-- What follows the extended byte (Parts), the bits of all columns (Bits), what is read (Gives), and document 01's row (Vectors).
pub mod Parts
pub mod Bits
pub mod Gives
pub mod Vectors
