-- Numbers of a width (BigEndian); four and eight bytes in the other order (Swaps).
pub mod BigEndian
pub mod Swaps
