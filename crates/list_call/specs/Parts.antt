-- The items of what is read of a part of Data, and that their records fit into a buffer. Assumes nothing.
use Rattle.std.specs.Prelude.{ℕ, ◌+◌, ◌*◌, ◌≤◌, ◌≡◌, List, [], ◌∷◌, ◌++◌, length}
use Rattle.std.proofs.Math.Option.{Option}
use Rattle.common.specs.Got.{Got, got, bad}
use Rattle.common.specs.Store.{Room, Puts}
use Rattle.data_field.specs.declared.fields.Deletion.{Deletion}
use Rattle.data_field.specs.declared.fields.Span.{Span}
use Rattle.data_cell.specs.declared.cells.Cell.{Cell}
use Rattle.common.specs.declared.times.Bases.{Bases}
use Rattle.data_clustering.specs.Prefixes.{values_at, widths_at}
use Rattle.data_row.specs.Bodies.{columns}
use Rattle.data_row.specs.declared.rows.Row.{Row}
use Rattle.data_marker.specs.declared.markers.Marker.{Marker}
use Rattle.schema_check.specs.declared.records.Counts.{Counts}
use Rattle.data_items.specs.Items.{row_item, marker_item}
use Rattle.data_items.specs.declared.Item.{Item}
use Rattle.data_contents.specs.Contents.{Entry, Contents, open_behind, values_listed, cells_listed, entry_listed, entries_listed, listed}
use Rattle.list_count.specs.Counted.{whole_cells_at}
use Rattle.list_call.specs.Records.{records_of}
use Rattle.list_call.specs.declared.fills.Behind.{Behind}
use Rattle.list_call.specs.declared.fills.Open.{Open}

unfoldable pub cells_of : Got (List (Option Cell)) → List Item
cells_of (got cs n) = cells_listed 0 cs
cells_of (bad f p) = []

unfoldable pub values_of : Got (List Span) → List Item
values_of (got vs n) = values_listed 0 vs
values_of (bad f p) = []

unfoldable pub entry_of : Got Entry → List Item
entry_of (got e n) = entry_listed e
entry_of (bad f p) = []

unfoldable pub entries_of : Got (List Entry) → List Item
entries_of (got es n) = entries_listed es n
entries_of (bad f p) = []

unfoldable pub contents_items : Got (List Contents) → List Item
contents_items (got ps n) = listed ps
contents_items (bad f p) = []

-- what is read is not refused, and the records of the items l fit into d from place at on
pub record Fitting {A : Type 0} (x : Got A) (l : List Item) (d : List ℕ) (at : ℕ) : Type 0 where
  pub value : A
  pub place : ℕ
  pub is : x ≡ got value place
  pub room : Room d at (records_of l)

-- ---- the parts of a row r whose first cell stands at n, in a table of the schema c, whose columns' counts are k
unfoldable pub statics_at : List ℕ → Counts → Bases → List ℕ → Row → ℕ → Got (List (Option Cell))
statics_at c k b s r n = whole_cells_at b r.body.times (widths_at c (16 + 16 * k.clustering) k.statics) r.body.present s n r.body.stop

unfoldable pub regulars_at : List ℕ → Counts → Bases → List ℕ → Row → ℕ → Got (List (Option Cell))
regulars_at c k b s r n = whole_cells_at b r.body.times (widths_at c (16 + 16 * (k.clustering + k.statics)) k.regulars) r.body.present s n r.body.stop

unfoldable pub clustering_of : List ℕ → Counts → List ℕ → Row → Got (List Span)
clustering_of c k s r = values_at (widths_at c 16 k.clustering) r.prefix.header s r.prefix.values (length s)

-- a static row is not refused, and its records fit into d from place at on
pub record FittingStatic (c : List ℕ) (k : Counts) (b : Bases) (s : List ℕ) (r : Row) (n : ℕ) (d : List ℕ) (at : ℕ) : Type 0 where
  pub present : r.body.present ≤ columns k.statics
  pub cells : List (Option Cell)
  pub place : ℕ
  pub is : statics_at c k b s r n ≡ got cells place
  pub room : Room d at (records_of (row_item 2 r ∷ cells_of (statics_at c k b s r n)))

-- and so one that is not static
pub record FittingRow (c : List ℕ) (k : Counts) (b : Bases) (s : List ℕ) (r : Row) (n : ℕ) (d : List ℕ) (at : ℕ) : Type 0 where
  pub present : r.body.present ≤ columns k.regulars
  pub values : List Span
  pub end : ℕ
  pub are : clustering_of c k s r ≡ got values end
  pub cells : List (Option Cell)
  pub place : ℕ
  pub is : regulars_at c k b s r n ≡ got cells place
  pub room : Room d at (records_of (row_item 3 r ∷ (values_of (clustering_of c k s r) ++ cells_of (regulars_at c k b s r n))))

-- the records of the entry x are stored in d from place at on, which becomes d'
pub record PutsEntry (x : Got Entry) (d d' : List ℕ) (at : ℕ) (r : Behind) : Type 0 where
  pub next : (e : Entry) (n : ℕ) → x ≡ got e n → r.next ≡ n
  pub puts : Puts d d' at (records_of (entry_of x)) r.out

-- ---- the values of a marker
unfoldable pub bound_of : List ℕ → List ℕ → Marker → Got (List Span)
bound_of c s m = values_at (widths_at c 16 m.count) m.prefix.header s m.prefix.values (length s)

-- a marker that ends at n is not refused, and its records fit into d from place at on
pub record FittingBound (c s : List ℕ) (m : Marker) (n : ℕ) (d : List ℕ) (at : ℕ) : Type 0 where
  pub inside : 16 + 16 * m.count ≤ length c
  pub few : m.count ≤ 32
  pub values : List Span
  pub end : ℕ
  pub are : bound_of c s m ≡ got values end
  pub room : Room d at (records_of (marker_item m n ∷ values_of (bound_of c s m)))

-- the records of the marker x are stored, where the deletion of the open range is `opened`
pub record PutsMarker (x : Got Entry) (opened : Deletion) (d d' : List ℕ) (at : ℕ) (r : Open) : Type 0 where
  pub next : (e : Entry) (n : ℕ) → x ≡ got e n → r.next ≡ n
  pub opens : (e : Entry) (n : ℕ) → x ≡ got e n → r.opened ≡ open_behind opened e
  pub puts : Puts d d' at (records_of (entry_of x)) r.out

-- the records of entries and the end byte are stored; the next place is behind that
pub record PutsEntries (x : Got (List Entry)) (d d' : List ℕ) (at : ℕ) (r : Behind) : Type 0 where
  pub next : (es : List Entry) (n : ℕ) → x ≡ got es n → r.next ≡ n + 1
  pub puts : Puts d d' at (records_of (entries_of x)) r.out
