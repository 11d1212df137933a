-- A signed number stored (Stores); that the loops' counts and records are the walk's (Loops); the cases of the answer (Answers); parts stored
-- one after the other (Writing), and so cells, values, rows, markers, entries and partitions (Put..).
pub mod Stores
pub mod Loops
pub mod Answers
pub mod Writing
pub mod PutCells
pub mod PutValues
pub mod PutRows
pub mod PutMarkers
pub mod PutEntries
pub mod PutContents
