-- The tests of a sum (Sums), and what is read of fields (Ranges).
pub mod Sums
pub mod Ranges
