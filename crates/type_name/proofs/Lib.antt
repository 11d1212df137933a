-- Loops over characters (Scans), names (Names), balanced parentheses (Parentheses).
pub mod Scans
pub mod Names
pub mod Parentheses
