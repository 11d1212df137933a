-- When bits are a NaN's (Doubles).
pub mod Doubles
