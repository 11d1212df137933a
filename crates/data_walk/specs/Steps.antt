-- "One step takes the walk's state by value and hands back the next item and state": c is the schema, k its columns' counts, b the bases, s
-- Data, x the cursor. Assumes nothing.
use Rattle.common.specs.declared.refusal.Refusal.{Refusal}
use Rattle.common.specs.declared.reading.Bad.{Bad}
use Rattle.std.specs.Prelude.{ℕ, ◌+◌, ◌*◌, ◌/◌, ◌^◌, Bool, true, false, List, ltb, eqb, length, get_or, Result, Ok, Err, Option as Optional, Some, None}
use Rattle.std.proofs.Math.Option.{Option, none, some}
use Rattle.std.specs.Int.Count.{count_trailing_zeros}
use Rattle.common.specs.Choose.{pick, bind}
use Rattle.common.specs.Got.{Got, got, bad, on}
use Rattle.common.specs.Refusals.{Outcome, taken, refused, said_refusal}
use Rattle.common.specs.declared.refusal.Fault.TheVariants.{LeftOver, OutOfTurn, BadRecord}
use Rattle.common.specs.declared.refusal.Slice.TheVariants.{Data, State}
use Rattle.common.specs.declared.times.Bases.{Bases}
use Rattle.data_field.specs.Fields.{byte_at, live}
use Rattle.data_cell.specs.Cells.{cell_at}
use Rattle.data_field.specs.declared.fields.Deletion.{Deletion}
use Rattle.data_clustering.specs.Prefixes.{clustering_at, widths_at}
use Rattle.data_row.specs.Rows.{row_at}
use Rattle.data_row.specs.declared.rows.Row.{Row}
use Rattle.data_marker.specs.Markers.{marker_at}
use Rattle.data_partition.specs.Partitions.{partition_at}
use Rattle.schema_check.specs.declared.records.Counts.{Counts}
use Rattle.call_check.specs.Tables.{after, table_at}
use Rattle.data_items.specs.Items.{partition_item, row_item, marker_item, value_item, cell_item, end_item}
use Rattle.data_walk.specs.Cursors.{bad_values, bad_prefix, bad_cells, at_items, at_cells, behind_value, behind_cell, behind_marker, behind_row}
use Rattle.data_items.specs.declared.Item.{Item}
use Rattle.data_walk.specs.declared.cursors.Phase.{Phase}
use Rattle.data_walk.specs.declared.cursors.Phase.TheVariants.{Partition, First, Items, Values, Prefix, Statics, Cells}
use Rattle.data_walk.specs.declared.cursors.Cursor.{Cursor}

-- an item, and the cursor behind it; and as it is read, up to the cursor's position
abbrev pub Handed : Type 0
Handed = Item × Cursor

abbrev pub hands : Item → Cursor → Got Handed
hands i y = got (i, y) y.position

-- ---- what the rules read in each phase
-- a partition's header
unfoldable pub partition_step : List ℕ → ℕ → Got Handed
partition_step s at =
    on (partition_at s at (length s)) (λ p n.
    bind (partition_item p) (λ i.
    bind (at_items n First live) (λ y. hands i y)))

-- the end byte that stands at at, before n: "the partition ends closed"
unfoldable pub end_step : Deletion → ℕ → ℕ → Got Handed
end_step opened at n =
    pick (eqb opened.deleted 0)
    (bind (end_item at) (λ i. bind (at_items n Partition live) (λ y. hands i y)))
    (bad OutOfTurn at)

-- a marker, whole
unfoldable pub marker_step : List ℕ → Counts → Bases → List ℕ → Deletion → ℕ → Got Handed
marker_step c k b s opened at =
    on (marker_at b (widths_at c 16 k.clustering) opened s at (length s)) (λ m n.
    bind (marker_item m n) (λ i.
    bind (behind_marker m n) (λ y. hands i y)))

-- the row r, whose first cell stands at n
unfoldable pub row_handed : Counts → Deletion → Row → ℕ → Got Handed
row_handed k opened r n =
    pick (eqb r.extended 1)
    (bind (row_item 2 r) (λ i. bind (behind_row r 0 n opened Statics n) (λ y. hands i y)))
    (bind (row_item 3 r) (λ i.
    pick (eqb k.clustering 0)
    (bind (behind_row r 0 n opened Cells n) (λ y. hands i y))
    (bind (behind_row r k.clustering n opened Values r.prefix.values) (λ y. hands i y))))

-- a row, up to its first cell
unfoldable pub row_step : List ℕ → Counts → Bases → List ℕ → ℕ → Deletion → ℕ → Got Handed
row_step c k b s first opened at =
    on (row_at b (widths_at c 16 k.clustering) k.statics k.regulars first s at (length s)) (λ r n. row_handed k opened r n)

-- an item of a partition: the end byte, a marker or a row
unfoldable pub item_step : List ℕ → Counts → Bases → List ℕ → ℕ → Deletion → ℕ → Got Handed
item_step c k b s first opened at =
    on (byte_at s at (length s)) (λ f n.
    pick (eqb f 1) (end_step opened at n)
    (pick (eqb f 2) (marker_step c k b s opened at)
    (row_step c k b s first opened at)))

-- a clustering value; behind the last one the cursor is last
unfoldable pub value_step : List ℕ → List ℕ → Cursor → Cursor → Got Handed
value_step c s x last =
    on (clustering_at (get_or c (16 * x.hand.column + 19) 0) (x.hand.header / 2 ^ (2 * x.hand.column)) s x.position (length s)) (λ v n.
    bind (value_item x.hand.column v) (λ i.
    bind (behind_value x n last) (λ y. hands i y)))

-- the cell of column i, where the first column's record stands at base
unfoldable pub cell_step : List ℕ → Bases → List ℕ → Cursor → ℕ → ℕ → Got Handed
cell_step c b s x base i =
    on (cell_at b x.hand.times (get_or c (base + 16 * i + 3) 0) s x.position x.hand.stop) (λ v n.
    bind (cell_item i v) (λ it.
    bind (behind_cell x (i + 1) n) (λ y. hands it y)))

-- the next cell that is there; behind the last one "bytes left over", and else the next item
unfoldable pub cells_step : List ℕ → Counts → Bases → List ℕ → Cursor → ℕ → Got Handed
cells_step c k b s x base =
    bind (x.hand.present / 2 ^ x.hand.column) (λ left.
    pick (eqb left 0)
    (pick (ltb x.position x.hand.stop) (bad LeftOver x.position) (item_step c k b s 0 x.opened x.position))
    (cell_step c b s x base (x.hand.column + count_trailing_zeros 64 left)))

-- ---- a step, phase by phase
-- what a step answers: an item and the cursor behind it, no item, or a refusal
abbrev pub Answer : Type 0
Answer = Outcome (Option Handed)

unfoldable pub handed : Got Handed → Answer
handed (got x n) = taken (some x)
handed (bad f p) = refused f Data p

-- 10 at 0 of state
abbrev pub bad_state : Answer
bad_state = refused BadRecord State 0

abbrev pub done : Answer
done = taken none

-- between partitions: no item at Data's end
unfoldable pub partition_answer : List ℕ → Cursor → Answer
partition_answer s x =
    pick (ltb (length s) x.position) bad_state
    (pick (eqb x.position (length s)) done
    (handed (partition_step s x.position)))

-- in a partition: first is 1 right behind its header
unfoldable pub item_answer : List ℕ → Counts → Bases → List ℕ → ℕ → Cursor → Answer
item_answer c k b s first x = pick (ltb (length s) x.position) bad_state (handed (item_step c k b s first x.opened x.position))

-- in the clustering values of a row, of a marker
unfoldable pub values_answer : List ℕ → Counts → List ℕ → Cursor → Answer
values_answer c k s x = pick (bad_values k (length s) x) bad_state (bind (at_cells x) (λ last. handed (value_step c s x last)))

unfoldable pub prefix_answer : List ℕ → Counts → List ℕ → Cursor → Answer
prefix_answer c k s x = pick (bad_prefix k (length s) x) bad_state (bind (at_items x.hand.stop Items x.opened) (λ last. handed (value_step c s x last)))

-- in the cells of n columns, the first of which has its record at base; of a static row
unfoldable pub cells_answer : List ℕ → Counts → Bases → List ℕ → Cursor → ℕ → ℕ → Answer
cells_answer c k b s x base n = pick (bad_cells n (length s) x) bad_state (handed (cells_step c k b s x base))

unfoldable pub statics_answer : List ℕ → Counts → Bases → List ℕ → Cursor → ℕ → ℕ → Answer
statics_answer c k b s x base n = pick (eqb n 0) bad_state (cells_answer c k b s x base n)

unfoldable pub step_in : Phase → List ℕ → Counts → Bases → List ℕ → Cursor → Answer
step_in Partition c k b s x = partition_answer s x
step_in First c k b s x = item_answer c k b s 1 x
step_in Items c k b s x = item_answer c k b s 0 x
step_in Values c k b s x = values_answer c k s x
step_in Prefix c k b s x = prefix_answer c k s x
step_in Statics c k b s x = statics_answer c k b s x (16 + 16 * k.clustering) k.statics
step_in Cells c k b s x = cells_answer c k b s x (16 + 16 * (k.clustering + k.statics)) k.regulars

-- ---- the cells of both kinds of rows at once, as the code goes through them: t where the row is static
unfoldable pub is_static : Phase → Bool
is_static Partition = false
is_static First = false
is_static Items = false
is_static Values = false
is_static Prefix = false
is_static Statics = true
is_static Cells = false

unfoldable pub is_of_cells : Phase → Bool
is_of_cells Partition = false
is_of_cells First = false
is_of_cells Items = false
is_of_cells Values = false
is_of_cells Prefix = false
is_of_cells Statics = true
is_of_cells Cells = true

-- where the record of the first column stands, how many there are, and whether a static row is in hand where no column is static
unfoldable pub columns_at : Bool → Counts → ℕ
columns_at t k = pick t (16 + 16 * k.clustering) (16 + 16 * (k.clustering + k.statics))

unfoldable pub columns_of : Bool → Counts → ℕ
columns_of t k = pick t k.statics k.regulars

unfoldable pub lacking : Bool → Counts → Bool
lacking t k = pick t (eqb k.statics 0) false

unfoldable pub columns_answer : Bool → List ℕ → Counts → Bases → List ℕ → Cursor → Answer
columns_answer t c k b s x = pick (lacking t k) bad_state (bind (columns_at t k) (λ base. bind (columns_of t k) (λ n. cells_answer c k b s x base n)))

-- one step: of the cursor x, in a table of the schema c and the bases b, through the Data s
unfoldable pub step_at : List ℕ → Bases → Cursor → List ℕ → Answer
step_at c b x s = after (table_at c b s 0) (λ k. step_in x.phase c k b s x)

-- ---- what the code's answers say
unfoldable pub said_moved : Result (Item × Cursor) Bad → Got Handed
said_moved (Ok x) = hands x.0 x.1
said_moved (Err e) = bad e.fault e.place

unfoldable pub said_step : Result (Optional (Item × Cursor)) Refusal → Answer
said_step (Ok (Some x)) = taken (some (x.0, x.1))
said_step (Ok None) = done
said_step (Err r) = said_refusal r
