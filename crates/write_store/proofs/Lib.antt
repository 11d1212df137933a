-- Values and cells that are taken are those that are read again (Taken); rows and markers stored (PutRows), entries one by one (Entered,
-- PutEntries), partitions one by one (PutContents).
pub mod Taken
pub mod PutRows
pub mod Entered
pub mod PutEntries
pub mod PutContents
