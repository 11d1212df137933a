pub mod Flags
pub mod Bodies
pub mod Rows
