-- The calls of the C interface for Statistics.db and schema tables. Assumes nothing.
use Rattle.std.specs.Prelude.{ℕ, ◌≡◌, List, [], ◌∷◌, Result}
use Rattle.common.specs.Refusals.{outcome}
use Rattle.common.specs.Times.{biased}
use Rattle.common.specs.declared.refusal.Refusal.{Refusal}
use Rattle.schema_check.specs.Records.{schema_of}
use Rattle.schema_check.specs.declared.records.Counts.{Counts}
use Rattle.stats_file.specs.Statistics.{statistics_of, schema_in}
use Rattle.stats_file.specs.declared.Table.{Table}
use Rattle.sstable_words.specs.Words.{words, mapped}

-- the bases, the partitioner's name, the chance's bits, and how many columns there are
abbrev pub table_words : Table → List ℕ
table_words t =
    biased t.bases.timestamp
    ∷ t.bases.local
    ∷ t.bases.ttl
    ∷ t.validation.name
    ∷ t.validation.len
    ∷ t.validation.chance.bits
    ∷ t.sizes.clustering
    ∷ t.sizes.statics
    ∷ t.sizes.regulars
    ∷ []

unfoldable pub statistics_words : List ℕ → List ℕ → List ℕ
statistics_words s d = words (0 ∷ 0 ∷ 0 ∷ 0 ∷ 0 ∷ 0 ∷ 0 ∷ 0 ∷ 0 ∷ []) (mapped table_words (statistics_of s d))

-- the file s is read, a are the answer's words, and the buffer d becomes d'
pub record StatisticsRead (s d d' a : List ℕ) : Type 0 where
  pub answer : a ≡ statistics_words s d
  pub buffer : d' ≡ schema_in s d

-- how many clustering, static and regular columns there are
abbrev pub count_words : Counts → List ℕ
count_words c = c.clustering ∷ c.statics ∷ c.regulars ∷ []

-- a schema table, where each name's place lies before limit
unfoldable pub schema_words : ℕ → List ℕ → List ℕ
schema_words limit s = words (0 ∷ 0 ∷ 0 ∷ []) (mapped count_words (schema_of limit s))

-- the words that the code's answer says
unfoldable pub checked_words : Result Counts Refusal → List ℕ
checked_words c = words (0 ∷ 0 ∷ 0 ∷ []) (mapped count_words (outcome c))
