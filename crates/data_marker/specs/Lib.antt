pub mod Kinds
pub mod Markers
