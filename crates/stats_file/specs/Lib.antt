pub mod Bases
pub mod Header
pub mod Statistics
pub mod Buffer
