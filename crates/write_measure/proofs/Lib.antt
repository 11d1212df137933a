-- How long an entry is by its parts (Lengths), and how long what is taken can be (Most); the laws of each entry (Rows) and of the loops over
-- entries and partitions (Loops).
pub mod Lengths
pub mod Most
pub mod Rows
pub mod Loops
