pub mod Answers
pub mod Regions
pub mod Loops
pub mod Tokens
pub mod RightBounds
