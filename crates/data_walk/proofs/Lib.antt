-- What the code's answers say (Said), where the columns of a state that is not refused stand (Bounds), where the columns of a table stand (Columns), that steps move on (Moves), and document 01's file step by step (Vectors).
pub mod Said
pub mod Bounds
pub mod Columns
pub mod Moves
pub mod Vectors
