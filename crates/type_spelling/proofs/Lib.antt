-- What a type string gives (Carried), and a type string for each type that may be carried (Spelled).
pub mod Carried
pub mod Spelled
