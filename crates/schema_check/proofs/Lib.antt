pub mod Lines
pub mod Fields
pub mod Runs
pub mod Whole
