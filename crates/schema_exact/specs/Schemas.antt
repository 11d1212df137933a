-- Schema records as the theorems speak of them: how many of each role there are, when two schemas are equal but for the places of
-- names, and when Statistics gives a schema. Assumes nothing.
use Rattle.std.specs.Prelude.{◌≡◌, Bool, false, List, ℕ, ◌*◌, ◌/◌, ◌%◌, ◌≤◌, ◌<◌, ltb, length, get_or}
use Rattle.common.specs.Choose.{pick}
use Rattle.common.specs.Got.{got}
use Rattle.schema_check.specs.Records.{role_at}
use Rattle.schema_check.specs.declared.records.Counts.{Counts}
use Rattle.stats_file.specs.Header.{records_of}
use Rattle.stats_file.specs.Statistics.{File, file_at}
use Rattle.stats_file.specs.declared.columns.Sizes.{Sizes}

-- one key, and so many clustering, static and regular columns
abbrev pub counts : ℕ → ℕ → ℕ → Counts
counts k m r = record { keys = 1; clustering = k; statics = m; regulars = r }

-- the records of a Statistics with the sizes
abbrev pub counts_of : Sizes → Counts
counts_of z = counts z.clustering z.statics z.regulars

-- whether byte i of a record of the role, 0 to 15, is one of a name's place: offset and length are the bytes 4 to 11, and only
-- static and regular columns have a name
abbrev pub of_place : ℕ → ℕ → Bool
of_place role i = pick (ltb role 2) false (pick (ltb i 4) false (ltb i 12))

-- the schemas v and w are equal but for the places of names
pub record Alike (v w : List ℕ) : Type 0 where
  pub lengths : length v ≡ length w
  pub bytes : (i : ℕ) → i < length v → of_place (role_at v (16 * (i / 16))) (i % 16) ≡ false → get_or v i 0 ≡ get_or w i 0

-- a Statistics, at most 2^30 bytes, that is read and gives the schema v but for the places of names; c counts its columns
pub record Source (v : List ℕ) (c : Counts) : Type 0 where
  pub file : List ℕ
  pub small : length file ≤ 1073741824
  pub bytes : (i : ℕ) → get_or file i 0 < 256
  pub content : File
  pub end : ℕ
  pub read : file_at file ≡ got content end
  pub gives : Alike v (records_of content.header.columns)
  pub counted : counts_of content.header.sizes ≡ c
