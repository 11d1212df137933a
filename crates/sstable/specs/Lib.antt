pub mod Varints
pub mod Scylla
pub mod Statistics
