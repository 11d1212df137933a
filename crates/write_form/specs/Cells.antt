-- "The writer sets cell flag 08 when the row has that timestamp, 10 when an expiring cell has the row's TTL and expiry, 04 .. for empty
-- values": a cell in the writer's form. Assumes nothing.
use Rattle.std.specs.Prelude.{ℕ, ◌+◌, ◌-◌, ◌*◌, List, [], ◌∷◌, ◌++◌, ltb, eqb, length}
use Rattle.common.specs.Choose.{pick}
use Rattle.number_varint.specs.Varints.{shortest}
use Rattle.common.specs.declared.times.Bases.{Bases}
use Rattle.data_field.specs.Fields.{span}
use Rattle.data_cell.specs.Cells.{cell}
use Rattle.data_cell.specs.declared.cells.Times.{Times}
use Rattle.data_cell.specs.declared.cells.Cell.{Cell}
use Rattle.write_form.specs.Views.{CellView}

-- 1 where the row has the cell's timestamp
unfoldable pub same_time : Times → Cell → ℕ
same_time row c = pick (eqb row.timed 1) (pick (eqb row.timestamp c.timestamp) 1 0) 0

-- 1 where the cell expires and the row has its TTL and expiry
unfoldable pub same_expiry : Times → Cell → ℕ
same_expiry row c =
    pick (eqb c.kind 1) (pick (eqb row.expires 1) (pick (eqb row.local c.local) (pick (eqb row.ttl c.ttl) 1 0) 0) 0) 0

-- 1 where a cell whose value has n bytes has none to write: "04 .. for empty values", and on tombstones
unfoldable pub no_value : Cell → ℕ → ℕ
no_value c n = pick (ltb 1 c.kind) 1 (pick (eqb n 0) 1 0)

-- 02 for a cell that expires, 01 for a tombstone
unfoldable pub kind_bits : Cell → ℕ
kind_bits c = pick (eqb c.kind 0) 0 (pick (eqb c.kind 1) 2 1)

unfoldable pub cell_flags : Times → Cell → ℕ → ℕ
cell_flags row c n = kind_bits c + 4 * no_value c n + 8 * same_time row c + 16 * same_expiry row c

unfoldable pub timestamp_bytes : Bases → Times → Cell → List ℕ
timestamp_bytes b row c = pick (eqb (same_time row c) 1) [] (shortest (c.timestamp - b.timestamp))

unfoldable pub ttl_bytes : Bases → Cell → List ℕ
ttl_bytes b c = pick (eqb c.kind 1) (shortest (c.ttl - b.ttl)) []

-- local deletion time and TTL
unfoldable pub expiry_bytes : Bases → Times → Cell → List ℕ
expiry_bytes b row c =
    pick (eqb c.kind 0) []
    (pick (eqb (same_expiry row c) 1) []
    (shortest (c.local - b.local) ++ ttl_bytes b c))

-- the length before a value of n bytes: of a variable width (255) alone
unfoldable pub length_bytes : ℕ → ℕ → List ℕ
length_bytes w n = pick (eqb w 255) (shortest n) []

-- a value that is not empty
unfoldable pub field_bytes : ℕ → List ℕ → List ℕ
field_bytes w v = length_bytes w (length v) ++ v

unfoldable pub value_bytes : ℕ → Cell → List ℕ → List ℕ
value_bytes w c v = pick (eqb (no_value c (length v)) 1) [] (field_bytes w v)

unfoldable pub last_bytes : Bases → Times → ℕ → Cell → List ℕ → List ℕ
last_bytes b row w c v = expiry_bytes b row c ++ value_bytes w c v

unfoldable pub tail_bytes : Bases → Times → ℕ → Cell → List ℕ → List ℕ
tail_bytes b row w c v = timestamp_bytes b row c ++ last_bytes b row w c v

-- the cell c of a column of width w, in a row of these times; v are the bytes of its value, whose place in c is not looked at
unfoldable pub cell_bytes : Bases → Times → ℕ → Cell → List ℕ → List ℕ
cell_bytes b row w c v = (cell_flags row c (length v) ∷ []) ++ tail_bytes b row w c v

-- the numbers of a cell
abbrev pub numbers_of : CellView → Cell
numbers_of x = cell x.kind x.timestamp x.local x.ttl (span 0 0)

abbrev pub cell_form : Bases → Times → ℕ → CellView → List ℕ
cell_form b row w x = cell_bytes b row w (numbers_of x) x.value
