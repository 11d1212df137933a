-- The marker of the first byte (Marker), the shortest form (Shortest), a varint cut out of eight bytes (Cuts), reading and storing
-- (Varints); lists of bytes up to a length (Within); document 01's four varints (Vectors).
pub mod Marker
pub mod Shortest
pub mod Cuts
pub mod Varints
pub mod Within
pub mod Vectors
