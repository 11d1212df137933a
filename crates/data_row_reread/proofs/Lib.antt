-- Parts of a row that is not refused: its clustering (KnownPrefixes), its body (KnownBodies), and the whole of it (KnownRows).
pub mod KnownPrefixes
pub mod KnownBodies
pub mod KnownRows
