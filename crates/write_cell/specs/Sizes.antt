-- How many bytes a value and a cell have in the writer's form, from the length of the value alone. Assumes nothing.
use Rattle.std.specs.Prelude.{ℕ, ◌+◌, eqb, length}
use Rattle.common.specs.Choose.{pick}
use Rattle.common.specs.declared.times.Bases.{Bases}
use Rattle.data_cell.specs.declared.cells.Times.{Times}
use Rattle.data_cell.specs.declared.cells.Cell.{Cell}
use Rattle.write_form.specs.Cells.{no_value, timestamp_bytes, expiry_bytes, length_bytes}

-- a value of n bytes that is not empty, in a column of width w
unfoldable pub field_size : ℕ → ℕ → ℕ
field_size w n = length (length_bytes w n) + n

-- a clustering value of n bytes: none for an empty one
unfoldable pub value_size : ℕ → ℕ → ℕ
value_size w n = pick (eqb n 0) 0 (field_size w n)

-- the value of a cell, of n bytes
unfoldable pub content_size : ℕ → Cell → ℕ → ℕ
content_size w c n = pick (eqb (no_value c n) 1) 0 (field_size w n)

-- a cell: flags, timestamp, local deletion time and TTL, value
unfoldable pub cell_size : Bases → Times → ℕ → Cell → ℕ
cell_size b row w c = 1 + (length (timestamp_bytes b row c) + (length (expiry_bytes b row c) + content_size w c c.value.len))
