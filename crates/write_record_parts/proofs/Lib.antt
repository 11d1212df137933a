-- What a record says, from its bytes or numbers (Places).
pub mod Places
