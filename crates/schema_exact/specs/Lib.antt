pub mod Schemas
pub mod Canonical
