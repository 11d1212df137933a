-- Columns without a cell (Skips), how long one value or cell is (Sizes), the loops over values (Values) and cells (Cells).
pub mod Skips
pub mod Sizes
pub mod Values
pub mod Cells
