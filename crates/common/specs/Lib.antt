pub mod Choose
pub mod Refusals
pub mod Got
pub mod Store
pub mod Times
