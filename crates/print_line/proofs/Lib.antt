pub mod Digits
pub mod Puts
pub mod Bounds
pub mod Vectors
