-- Document 01's examples as one statement (Examples); demand 2 (Demand2, from Answers).
pub mod Examples
pub mod Answers
pub mod Demand2
