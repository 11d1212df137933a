-- One column (Fields), and the loops over the columns (Loops).
pub mod Fields
pub mod Loops
