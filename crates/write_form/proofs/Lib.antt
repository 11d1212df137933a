-- What stands in the writer's form is read back: numbers and values (Fields), cells, clustering values, rows (Rows, and with their cells
-- RowEntries), markers, a partition's header, all of Data (Whole); that what is read can be written (Fits); the laws of both together
-- (Laws), that a cell's form looks at no place (Same), and that the form is of bytes (Octets); document 01's Data and others in that form (Vectors).
pub mod Fields
pub mod Cells
pub mod Clusterings
pub mod Rows
pub mod RowEntries
pub mod Markers
pub mod Partitions
pub mod Whole
pub mod Fits
pub mod Laws
pub mod Same
pub mod Octets
pub mod Vectors
