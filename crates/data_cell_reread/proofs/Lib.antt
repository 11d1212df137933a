-- Parts of readings that are not refused: fields (KnownFields), and cells (KnownCells).
pub mod KnownFields
pub mod KnownCells
