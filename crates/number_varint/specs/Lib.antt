pub mod Varints
