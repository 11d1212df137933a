pub mod OneFile
pub mod Demand2
