-- Document 01's "One file, whole": the bytes of its two files. Assumes nothing.
use Rattle.std.specs.Prelude.{ℕ, List, [], ◌∷◌, ◌++◌}
use Rattle.text.specs.Text.{text}

-- "Murmur3Partitioner's full name, chance 0.01, three zero varints, key UTF8Type, clustering Int32Type, no static, regular `v` Int32Type"
abbrev pub statistics : List ℕ
statistics = 0 ∷ 0 ∷ 0 ∷ 2 ∷ 0 ∷ 0 ∷ 0 ∷ 0 ∷ 0 ∷ 0 ∷ 0 ∷ 20 ∷ 0 ∷ 0 ∷ 0 ∷ 3 ∷ 0 ∷ 0 ∷ 0 ∷ 73
    ∷ 0 ∷ 43 ∷ (text "org.apache.cassandra.dht.Murmur3Partitioner"
    ++ (0x3F ∷ 0x84 ∷ 0x7A ∷ 0xE1 ∷ 0x47 ∷ 0xAE ∷ 0x14 ∷ 0x7B
    ∷ 0 ∷ 0 ∷ 0
    ∷ 8 ∷ (text "UTF8Type"
    ++ (1 ∷ 9 ∷ (text "Int32Type"
    ++ (0 ∷ 1 ∷ 1 ∷ 0x76 ∷ 9 ∷ text "Int32Type"))))))

-- Data with the body size z, and last its last bytes
abbrev pub «data» : ℕ → List ℕ → List ℕ
«data» z last = 0x00 ∷ 0x01 ∷ 0x6B ∷ 0x7F ∷ 0xFF ∷ 0xFF ∷ 0xFF ∷ 0x80 ∷ 0x00 ∷ 0x00 ∷ 0x00 ∷ 0x00 ∷ 0x00 ∷ 0x00 ∷ 0x00 ∷ 0x24 ∷ 0x00 ∷ 0x00
    ∷ 0x00 ∷ 0x00 ∷ 0x07 ∷ z ∷ 0x0F ∷ 0x05 ∷ 0x08 ∷ 0x00 ∷ 0x00 ∷ 0x00 ∷ 0x2A ∷ last

-- a text and the line's end
abbrev pub line : List ℕ → List ℕ
line w = w ++ (10 ∷ [])
