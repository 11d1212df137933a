-- The counts of a schema that is not refused (Schemas), and what follows an outcome (After).
pub mod Schemas
pub mod After
