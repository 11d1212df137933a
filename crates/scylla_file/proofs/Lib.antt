pub mod Once
pub mod Vectors
