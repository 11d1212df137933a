-- The call of the C interface for Scylla.db. Assumes nothing.
use Rattle.std.specs.Prelude.{ℕ, List, [], ◌∷◌}
use Rattle.scylla_file.specs.Components.{scylla_of}
use Rattle.scylla_file.specs.declared.component.Components.{Components}
use Rattle.sstable_words.specs.Words.{words, mapped}

-- feature bits, run identifier, and offset and length of the bodies of tags 1 to 4
abbrev pub component_words : Components → List ℕ
component_words c =
    c.bits
    ∷ c.uuid.high
    ∷ c.uuid.low
    ∷ c.sharding.offset
    ∷ c.sharding.length
    ∷ c.features.offset
    ∷ c.features.length
    ∷ c.attributes.offset
    ∷ c.attributes.length
    ∷ c.run.offset
    ∷ c.run.length
    ∷ []

-- the file s, read whole
unfoldable pub scylla_read : List ℕ → List ℕ
scylla_read s = words (0 ∷ 0 ∷ 0 ∷ 0 ∷ 0 ∷ 0 ∷ 0 ∷ 0 ∷ 0 ∷ 0 ∷ 0 ∷ []) (mapped component_words (scylla_of s))
