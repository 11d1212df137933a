-- What the tests of a record say (Said), a record from what the code tests (Plain).
pub mod Said
pub mod Plain
