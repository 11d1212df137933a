-- Demand 2, stated: "A set of files is accepted exactly when it is well formed by document 01's reading of the published mc format. Then every
-- partition, row, marker, cell, time and deletion is listed as that reading says. Given room, writing the list out under the same schema and base
-- times and reading it again gives the same list, apart from where things stand and how long whole rows and markers are."
-- Throughout: c the schema's records, b the bases, d and e Data, l and m items, s a record table, bytes those lent beside it. `list_at c b d room` is what
-- the call `list` reads where a buffer of room bytes is lent, 0 where none is (`count`): the items l, whose record table is `records_of l`, or a refusal.
-- `write_of c b s bytes room` is what the call `write` answers. Assumes nothing.
use Rattle.std.specs.Prelude.{◌≡◌, false, List, [], ℕ, ◌*◌, ◌^◌, ◌≤◌, ◌<◌, length, get_or}
use Rattle.common.specs.Got.{Got, got, bad}
use Rattle.common.specs.Refusals.{Outcome, taken, refused}
use Rattle.common.specs.declared.refusal.Fault.TheVariants.{NoRoom}
use Rattle.common.specs.declared.refusal.Slice.TheVariants.{Output}
use Rattle.common.specs.declared.times.Bases.{Bases}
use Rattle.schema_check.specs.Records.{schema_of, anywhere}
use Rattle.schema_check.specs.declared.records.Counts.{Counts}
use Rattle.call_check.specs.Tables.{bad_bases, table_at}
use Rattle.data_items.specs.declared.Item.{Item}
use Rattle.data_contents.specs.Contents.{widths_of, Contents, contents_at, contents_of}
use Rattle.list_call.specs.Lists.{list_at}
use Rattle.list_call.specs.Records.{records_of}
use Rattle.write_form.specs.Views.{PartitionView, show_contents}
use Rattle.write_accept.specs.Listings.{items_of, show_items, Proper}
use Rattle.write_accept.specs.Writes.{fitting, write_of}

-- "each slice up to 1,073,741,824 bytes"
abbrev pub limit : ℕ
limit = 1073741824

-- a slice holds bytes
abbrev pub Octets : List ℕ → Type 0
Octets s = (k : ℕ) → get_or s k 0 < 256

-- a schema and bases that no call refuses, and how many columns of each role the schema has
pub record Usable (c : List ℕ) (b : Bases) : Type 0 where
  pub counts : Counts
  pub schema : schema_of anywhere c ≡ taken counts
  pub bases : bad_bases b ≡ false

-- by document 01's reading d is well formed, and l are its items
abbrev pub WellFormed : (c : List ℕ) (b : Bases) → Usable c b → List ℕ → List Item → Type 0
WellFormed c b u d l = contents_of c u.counts b d ≡ taken l

-- the same items "apart from where things stand and how long whole rows and markers are": kinds, flags, columns, times and deletions are the same, and
-- so are the keys and values that l shows in d and m in e
abbrev pub Alike : List ℕ → List Item → List ℕ → List Item → Type 0
Alike d l e m = show_items d l ≡ show_items e m

-- ---- what Data holds, places aside: each partition's key and deletion; its static row, rows and markers in order, with liveness, deletions,
-- clustering values, and the cell of each column that has one
unfoldable pub shown_by : List ℕ → Got (List Contents) → List PartitionView
shown_by d (got ps n) = show_contents d ps
shown_by d (bad f p) = []

unfoldable pub held_under : List ℕ → Bases → List ℕ → Outcome Counts → List PartitionView
held_under c b d (taken k) = shown_by d (contents_at (widths_of c k) b d 0 (length d))
held_under c b d (refused f z p) = []

abbrev pub held_by : List ℕ → Bases → List ℕ → List PartitionView
held_by c b d = held_under c b d (table_at c b d 0)

-- ---- writing a list and reading it again
-- e is accepted, and lists as d does
pub record Rereads (c : List ℕ) (b : Bases) (d : List ℕ) (l : List Item) (e : List ℕ) : Type 0 where
  pub items : List Item
  pub accepted : list_at c b e 0 ≡ taken items
  pub alike : Alike d l e items

-- the list l of d is written, in a buffer that has room, as Data that lists as d does; a smaller buffer is told the length needed (13)
pub record RoundTrip (c : List ℕ) (b : Bases) (d : List ℕ) (l : List Item) : Type 0 where
  pub written : List ℕ
  pub octets : Octets written
  pub writes : (room : ℕ) → room ≤ limit → length written ≤ room → write_of c b (records_of l) d room ≡ taken written
  pub short : (room : ℕ) → room ≤ limit → room < length written → write_of c b (records_of l) d room ≡ refused NoRoom Output (length written)
  pub rereads : length written ≤ limit → Rereads c b d l written

-- ---- "It takes exactly the record sequences that some accepted Data lists as, under the bases given, places aside"
-- the record table s is taken: `written` is its Data, in every buffer that has room; in a smaller one the answer is 13 with its length
pub record Taken (c : List ℕ) (b : Bases) (s bytes : List ℕ) : Type 0 where
  pub written : List ℕ
  pub answers : (room : ℕ) → room ≤ limit → write_of c b s bytes room ≡ fitting room written

-- some Data, well formed, lists as the record table s. It may be longer than the limit: then no buffer has room for it, and no call is lent it
pub record Listable (c : List ℕ) (b : Bases) (u : Usable c b) (s bytes : List ℕ) : Type 0 where
  pub «data» : List ℕ
  pub octets : Octets «data»
  pub counted : length «data» < 2 ^ 64
  pub items : List Item
  pub reads : WellFormed c b u «data» items
  pub alike : Alike «data» items bytes (items_of s)

-- ---- the demand
pub record Demand2 : Type 0 where
  -- Data is accepted exactly when no slice is over the limit, schema and bases pass, and Data is well formed
  pub accepts : (c : List ℕ) (b : Bases) (d : List ℕ) (room : ℕ) (l : List Item)
      → (list_at c b d room ≡ taken l → (u : Usable c b) × ((length d ≤ limit) × ((room ≤ limit) × WellFormed c b u d l)))
      × ((u : Usable c b) → length d ≤ limit → room ≤ limit → WellFormed c b u d l → list_at c b d room ≡ taken l)
  -- the list of every accepted Data, where its records are within the limit, is written and read again as the same list
  pub round_trip : (c : List ℕ) (b : Bases) (d : List ℕ) (l : List Item) → Octets d
      → list_at c b d 0 ≡ taken l → 64 * length l ≤ limit → RoundTrip c b d l
  -- a record table is taken exactly when it is proper (whole records, zero where nothing stands, keys and values that lie in the lent bytes) and
  -- some well formed Data lists as it
  pub exactly : (c : List ℕ) (b : Bases) (u : Usable c b) (s bytes : List ℕ) → Octets bytes → length s ≤ limit → length bytes ≤ limit
      → (Taken c b s bytes → Proper bytes s × Listable c b u s bytes)
      × (Proper bytes s → Listable c b u s bytes → Taken c b s bytes)
  -- what `write` stores, of whatever record table, is Data that is accepted and lists as that table
  pub stored : (c : List ℕ) (b : Bases) (s bytes : List ℕ) (room : ℕ) (d : List ℕ) → Octets bytes
      → write_of c b s bytes room ≡ taken d → Octets d × Rereads c b bytes (items_of s) d
  -- what was written, listed and written again is the same to the byte
  pub fixed : (c : List ℕ) (b : Bases) (s bytes : List ℕ) (room : ℕ) (d : List ℕ) (l : List Item) → Octets bytes
      → write_of c b s bytes room ≡ taken d → list_at c b d 0 ≡ taken l → write_of c b (records_of l) d room ≡ taken d
  -- "Is every pay line in these files on your list, and nothing that isn't in them?": two Data list alike exactly when they hold the same, and then
  -- the same bytes are written of both
  pub complete : (c : List ℕ) (b : Bases) (d e : List ℕ) (l m : List Item) → Octets d → Octets e → list_at c b d 0 ≡ taken l → list_at c b e 0 ≡ taken m
      → (Alike d l e m → held_by c b d ≡ held_by c b e)
      × ((held_by c b d ≡ held_by c b e → Alike d l e m)
      × (Alike d l e m → 64 * length l ≤ limit → (room : ℕ) → room ≤ limit → write_of c b (records_of l) d room ≡ write_of c b (records_of m) e room))
