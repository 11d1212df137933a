-- What follows a reading (Follows), the ranges of what is read (Gives), the walk in the clustering values of a row or marker (Values), in
-- a row's cells (Cells), in a row (Rows), a marker (Markers), a partition's entries (Entries); that the walk lists what is read (Lists),
-- and document 01's file, read as a whole (Vectors).
pub mod Follows
pub mod Gives
pub mod Values
pub mod Cells
pub mod Rows
pub mod Markers
pub mod Entries
pub mod Unfolds
pub mod Lists
pub mod Within
pub mod Vectors
