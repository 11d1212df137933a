-- Statistics: the contents, entry 0 and entry 3, and what reading it answers and fills. Assumes nothing.
use Rattle.std.specs.Prelude.{◌≡◌, ℕ, List, length, nat_lt, Result}
use Rattle.common.specs.Choose.{pick}
use Rattle.common.specs.Got.{Got, got, bad, on, Reading, said}
use Rattle.common.specs.Refusals.{Outcome, taken, refused, outcome}
use Rattle.common.specs.Store.{splice}
use Rattle.common.specs.declared.refusal.Fault.TheVariants.{OverLimit, NoRoom}
use Rattle.common.specs.declared.refusal.Refusal.{Refusal}
use Rattle.common.specs.declared.refusal.Slice.TheVariants.{Statistics, Output}
use Rattle.stats_contents.specs.Contents.{contents_at, end_of}
use Rattle.stats_validation.specs.Validation.{validation_at}
use Rattle.stats_contents.specs.declared.contents.Contents.{Contents}
use Rattle.stats_validation.specs.declared.Validation.{Validation}
use Rattle.stats_file.specs.Header.{Header, header_at, records_of}
use Rattle.stats_file.specs.declared.Table.{Table}
use Rattle.stats_file.specs.Buffer.{Holds, column_count}

-- both entries
pub record File : Type 0 where
  pub validation : Validation
  pub header : Header

-- entry 0, which ends where the next begins
unfoldable pub entry0_at : List ℕ → Contents → Got Validation
entry0_at s c = validation_at s c.validation (end_of c.validation c (length s))

unfoldable pub entry3_at : List ℕ → Contents → Got Header
entry3_at s c = header_at s c.header (end_of c.header c (length s))

-- both, entry 0 first, or entry 3 first
unfoldable pub forward_at : List ℕ → Contents → Got File
forward_at s c = on (entry0_at s c) (λ v n. on (entry3_at s c) (λ h m. got (record { validation = v; header = h }) m))

unfoldable pub backward_at : List ℕ → Contents → Got File
backward_at s c = on (entry3_at s c) (λ h m. on (entry0_at s c) (λ v n. got (record { validation = v; header = h }) n))

-- "Entries are read by place": so the faults of the one that stands first come first
unfoldable pub entries_at : List ℕ → Contents → Got File
entries_at s c = pick (nat_lt c.validation c.header) (forward_at s c) (backward_at s c)

unfoldable pub file_at : List ℕ → Got File
file_at s = on (contents_at s 0 (length s)) (λ c n. entries_at s c)

-- what the answer gives
abbrev pub table_of : File → Table
table_of x = record {
  bases = x.header.bases;
  validation = x.validation;
  sizes = x.header.sizes;
}

-- the answer for a buffer of `room` bytes
unfoldable pub answered : Got File → ℕ → Outcome Table
answered (got x n) room =
    pick (nat_lt room (length (records_of x.header.columns))) (refused NoRoom Output (length (records_of x.header.columns)))
    (taken (table_of x))
answered (bad f p) room = refused f Statistics p

-- what the buffer d then holds: the schema records where all is well, else what it held
unfoldable pub filled_in : Got File → List ℕ → List ℕ
filled_in (got x n) d =
    pick (nat_lt (length d) (length (records_of x.header.columns))) d
    (splice d 0 (records_of x.header.columns))
filled_in (bad f p) d = d

-- "Every call tests 1 first", the output last
unfoldable pub statistics_of : List ℕ → List ℕ → Outcome Table
statistics_of s d =
    pick (nat_lt 1073741824 (length s)) (refused OverLimit Statistics 0)
    (pick (nat_lt 1073741824 (length d)) (refused OverLimit Output 0)
    (answered (file_at s) (length d)))

unfoldable pub schema_in : List ℕ → List ℕ → List ℕ
schema_in s d =
    pick (nat_lt 1073741824 (length s)) d
    (pick (nat_lt 1073741824 (length d)) d
    (filled_in (file_at s) d))

-- the file s is read, r is the answer, and the buffer d becomes d'
pub record Reads (s d d' : List ℕ) (r : Result Table Refusal) : Type 0 where
  pub answer : outcome r ≡ statistics_of s d
  pub buffer : d' ≡ schema_in s d

-- ---- inside the call
-- the table, without its columns: those are in the buffer
unfoldable pub table_in : Got File → Got Table
table_in (got x n) = got (table_of x) n
table_in (bad f p) = bad f p

-- both entries are read, as x; the records are made in d, which becomes d', and r is the answer
pub record FillsFile (x : Got File) (d d' : List ℕ) (r : Reading Table) : Type 0 where
  pub answer : said r ≡ table_in x
  pub same : length d' ≡ length d
  pub holds : (f : File) (n : ℕ) → x ≡ got f n → Holds d' (column_count f.header.sizes) f.header.columns
