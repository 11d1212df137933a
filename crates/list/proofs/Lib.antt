pub mod Paths
pub mod Tables
pub mod Begins
pub mod Printed
