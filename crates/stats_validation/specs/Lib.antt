pub mod Validation
