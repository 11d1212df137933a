-- The cursor's state: "A state past the end, or with a column or phase that the schema lacks, gives 10" (decisions L12, L13), and the states
-- that follow. Assumes nothing.
use Rattle.std.specs.Prelude.{ℕ, ◌+◌, Bool, true, ltb, leb, eqb}
use Rattle.common.specs.Choose.{pick, bind}
use Rattle.data_field.specs.declared.fields.Deletion.{Deletion}
use Rattle.data_cell.specs.declared.cells.Times.{Times}
use Rattle.data_clustering.specs.Prefixes.{bad_header}
use Rattle.data_row.specs.Bodies.{columns, times}
use Rattle.data_row.specs.declared.rows.Row.{Row}
use Rattle.data_marker.specs.Markers.{open_after}
use Rattle.data_marker.specs.declared.markers.Marker.{Marker}
use Rattle.schema_check.specs.declared.records.Counts.{Counts}
use Rattle.data_walk.specs.declared.cursors.Phase.{Phase}
use Rattle.data_walk.specs.declared.cursors.Phase.TheVariants.{Items, Prefix, Cells}
use Rattle.data_walk.specs.declared.cursors.Hand.{Hand}
use Rattle.data_walk.specs.declared.cursors.Cursor.{Cursor}

abbrev pub hand : ℕ → ℕ → ℕ → ℕ → ℕ → ℕ → Times → Hand
hand column count header resume stop present row = record { column = column; count = count; header = header; resume = resume; stop = stop; present = present; times = row }

abbrev pub cursor : ℕ → Phase → Deletion → Hand → Cursor
cursor position phase opened h = record { position = position; phase = phase; opened = opened; hand = h }

-- nothing in hand
unfoldable pub none : Hand
none = hand 0 0 0 0 0 0 (times 0 0 0 0 0)

-- ---- which states are refused
-- a position past its body's end, or that past Data's, which has len bytes
unfoldable pub outside : ℕ → ℕ → ℕ → Bool
outside position stop len = pick (ltb len stop) true (ltb stop position)

-- a clustering column not below the count, or a header that reading would refuse for that count
unfoldable pub bad_column : ℕ → ℕ → ℕ → Bool
bad_column column count header = pick (leb count column) true (bad_header count header)

-- the values of a row: as many as the table has clustering columns
unfoldable pub bad_values : Counts → ℕ → Cursor → Bool
bad_values k len x =
    pick (outside x.position x.hand.stop len) true
    (pick (ltb len x.hand.resume) true
    (pick (eqb x.hand.count k.clustering)
    (bind (columns k.regulars) (λ all. pick (ltb all x.hand.present) true (bad_column x.hand.column x.hand.count x.hand.header)))
    true))

-- the values of a marker: not more than that
unfoldable pub bad_prefix : Counts → ℕ → Cursor → Bool
bad_prefix k len x =
    pick (outside x.position x.hand.stop len) true
    (pick (ltb k.clustering x.hand.count) true
    (bad_column x.hand.column x.hand.count x.hand.header))

-- the cells of n columns: a column that is n means that no cell is left
unfoldable pub bad_cells : ℕ → ℕ → Cursor → Bool
bad_cells n len x =
    pick (outside x.position x.hand.stop len) true
    (pick (ltb n x.hand.column) true
    (bind (columns n) (λ all. ltb all x.hand.present)))

-- ---- which states follow
unfoldable pub at_items : ℕ → Phase → Deletion → Cursor
at_items position phase opened = bind none (λ h. cursor position phase opened h)

-- the first cell of the row in hand
unfoldable pub at_cells : Cursor → Cursor
at_cells x = cursor x.hand.resume Cells x.opened (hand 0 x.hand.count x.hand.header x.hand.resume x.hand.stop x.hand.present x.hand.times)

-- behind a clustering value that ends at n: behind the last one, last
unfoldable pub behind_value : Cursor → ℕ → Cursor → Cursor
behind_value x n last =
    pick (leb x.hand.count x.hand.column) last
    (pick (eqb (x.hand.column + 1) x.hand.count) last
    (cursor n x.phase x.opened (hand (x.hand.column + 1) x.hand.count x.hand.header x.hand.resume x.hand.stop x.hand.present x.hand.times)))

-- behind a cell that ends at n
unfoldable pub behind_cell : Cursor → ℕ → ℕ → Cursor
behind_cell x column n = cursor n x.phase x.opened (hand column x.hand.count x.hand.header x.hand.resume x.hand.stop x.hand.present x.hand.times)

-- behind a marker's own record: the marker ends at stop
unfoldable pub behind_marker : Marker → ℕ → Cursor
behind_marker m stop =
    bind (open_after m.kind m.deletions) (λ opened.
    pick (eqb m.count 0) (at_items stop Items opened)
    (cursor m.prefix.values Prefix opened (hand 0 m.count m.prefix.header 0 stop 0 (times 0 0 0 0 0))))

-- behind a row's own record, in the phase, at position
unfoldable pub behind_row : Row → ℕ → ℕ → Deletion → Phase → ℕ → Cursor
behind_row r count cells opened phase position = cursor position phase opened (hand 0 count r.prefix.header cells r.body.stop r.body.present r.body.times)
