pub mod Rest
pub mod Texts
