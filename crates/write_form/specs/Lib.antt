pub mod Views
pub mod Cells
pub mod Clusterings
pub mod Rows
pub mod Markers
pub mod Partitions
pub mod Whole
pub mod Fits
