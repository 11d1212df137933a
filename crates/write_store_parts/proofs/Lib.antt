-- Values (PutValues) and cells (PutCells) stored one by one; a row's or a marker's parts one after the other (Stored).
pub mod PutValues
pub mod PutCells
pub mod Stored
