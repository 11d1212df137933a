pub mod Paging
pub mod Text
