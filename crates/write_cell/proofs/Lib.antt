-- The sizes of cells and values against their bytes.
pub mod Sizes
