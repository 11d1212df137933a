-- The base times (Times), the buffer of schema records (Records, Buffers), the loops (Loops), the parts one after the other (Parts), the whole file (Whole), and examples (Vectors).
pub mod Times
pub mod Records
pub mod Buffers
pub mod Loops
pub mod Parts
pub mod Whole
pub mod Vectors
