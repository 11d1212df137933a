pub mod Prefixes
pub mod Sizes
