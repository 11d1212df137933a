-- What follows a reading (Follows); cells, rows, markers, entries counted; how many items there are at most (Many).
pub mod Follows
pub mod Cells
pub mod Many
pub mod Rows
pub mod Markers
pub mod Entries
pub mod Partitions
