-- The form of a cell looks at its numbers and the bytes of its value alone. Assumes nothing.
use mathlib.Core.Path.{◌≡◌, refl}
use mathlib.Core.List.{List}
use Prim.Native.Nat.{ℕ}
use Rattle.common.specs.declared.times.Bases.{Bases}
use Rattle.data_cell.specs.declared.cells.Times.{Times}
use Rattle.data_cell.specs.declared.cells.Cell.{Cell}
use Rattle.write_form.specs.Views.{show_value, show_cell}
use Rattle.write_form.specs.Cells.{same_time, same_expiry, no_value, kind_bits, cell_flags, timestamp_bytes, ttl_bytes, expiry_bytes, value_bytes, last_bytes, tail_bytes, cell_bytes, cell_form}

pub cell_same : (b : Bases) (row : Times) (w : ℕ) (c : Cell) (s : List ℕ) → cell_form b row w (show_cell s c) ≡ cell_bytes b row w c (show_value s c.value)
unfolding same_time same_expiry no_value kind_bits cell_flags timestamp_bytes ttl_bytes expiry_bytes value_bytes last_bytes tail_bytes cell_bytes
cell_same b row w c s = refl
