-- The buffer in which the reader makes the schema records: the columns that it holds. Assumes nothing.
use Rattle.std.specs.Prelude.{◌≡◌, ℕ, zero, suc, ◌+◌, ◌*◌, List, [], ◌∷◌, ◌++◌, length, Result}
use Rattle.common.specs.Got.{Got, got, bad, Reading, said, said_place}
use Rattle.common.specs.declared.reading.Bad.{Bad}
use Rattle.common.proofs.Stands.{Stands}
use Rattle.schema_column.specs.Columns.{column_at}
use Rattle.schema_column.specs.declared.Column.{Column}
use Rattle.stats_file.specs.Header.{records_of, Group, Groups, Header}
use Rattle.stats_file.specs.declared.columns.Sizes.{Sizes}
use Rattle.stats_file.specs.declared.header.Head.{Head}

-- the n columns whose records stand from place at on
unfoldable pub columns_from : List ℕ → ℕ → ℕ → List Column
columns_from d at zero = []
columns_from d at (suc n) = column_at d at ∷ columns_from d (at + 16) n

-- d begins with the records of k columns
pub record Kept (d : List ℕ) (k : ℕ) : Type 0 where
  pub stands : Stands d (length d) 0 (16 * k) (records_of (columns_from d 0 k))

-- d begins with the records of the k columns cs
pub record Holds (d : List ℕ) (k : ℕ) (cs : List Column) : Type 0 where
  pub columns : columns_from d 0 k ≡ cs
  pub kept : Kept d k

-- ---- what is read, apart from the columns: those are in the buffer
unfoldable pub place_after : {A : Type 0} → Got A → Got (Unit {0})
place_after (got a n) = got tt n
place_after (bad f p) = bad f p

unfoldable pub count_in : Got Group → Got ℕ
count_in (got g n) = got g.count n
count_in (bad f p) = bad f p

unfoldable pub sizes_in : Got Groups → Got Sizes
sizes_in (got g n) = got g.sizes n
sizes_in (bad f p) = bad f p

unfoldable pub head_in : Got Header → Got Head
head_in (got h n) = got (record { bases = h.bases; sizes = h.sizes }) n
head_in (bad f p) = bad f p

-- how many columns there are, with the key
abbrev pub column_count : Sizes → ℕ
column_count z = 1 + z.clustering + z.statics + z.regulars

-- a column is read behind the k that d holds, as x; d becomes d', and r is the answer
pub record Adds (x : Got Column) (k : ℕ) (d d' : List ℕ) (r : Result ℕ Bad) : Type 0 where
  pub answer : said_place r ≡ place_after x
  pub same : length d' ≡ length d
  pub holds : (c : Column) (n : ℕ) → x ≡ got c n → Holds d' (k + 1) (columns_from d 0 k ++ (c ∷ []))

-- n columns are read behind the k that d holds, as x; d becomes d', and r is the answer
pub record Fills (x : Got (List Column)) (k : ℕ) (d d' : List ℕ) (r : Result ℕ Bad) : Type 0 where
  pub answer : said_place r ≡ place_after x
  pub same : length d' ≡ length d
  pub holds : (cs : List Column) (n : ℕ) → x ≡ got cs n → Holds d' k cs

-- a count and so many columns are read behind the k that d holds
pub record FillsGroup (x : Got Group) (k : ℕ) (d d' : List ℕ) (r : Reading ℕ) : Type 0 where
  pub answer : said r ≡ count_in x
  pub same : length d' ≡ length d
  pub holds : (g : Group) (n : ℕ) → x ≡ got g n → Holds d' (k + g.count) g.columns

-- the groups are read behind the key that d holds
pub record FillsGroups (x : Got Groups) (d d' : List ℕ) (r : Reading Sizes) : Type 0 where
  pub answer : said r ≡ sizes_in x
  pub same : length d' ≡ length d
  pub holds : (g : Groups) (n : ℕ) → x ≡ got g n → Holds d' (column_count g.sizes) g.columns

-- a header is read
pub record FillsHeader (x : Got Header) (d d' : List ℕ) (r : Reading Head) : Type 0 where
  pub answer : said r ≡ head_in x
  pub same : length d' ≡ length d
  pub holds : (h : Header) (n : ℕ) → x ≡ got h n → Holds d' (column_count h.sizes) h.columns
