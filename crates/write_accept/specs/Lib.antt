pub mod Fields
pub mod Records
pub mod Tests
pub mod Entries
pub mod Writes
pub mod Listings
