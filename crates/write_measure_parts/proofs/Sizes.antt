-- How long the value of one record is, and its cell. Assumes nothing.
use mathlib.Core.Path.{◌≡◌, refl, ap, ◌∙◌}
use mathlib.Core.Bool.{false}
use mathlib.Core.List.{List}
use Prim.Native.Nat.{ℕ, ◌≤◌}
use native.Mathlib.Omega.{arith}
use lib.ListN.{length}
use Rattle.common.specs.declared.times.Bases.{Bases}
use Rattle.data_field.specs.Fields.{span}
use Rattle.data_cell.specs.Cells.{cell}
use Rattle.data_cell.specs.declared.cells.Times.{Times}
use Rattle.data_cell.specs.declared.cells.Cell.{Cell}
use Rattle.data_items.specs.declared.Item.{Item}
use Rattle.write_form.specs.Views.{show_value, show_cell}
use Rattle.write_form.specs.Cells.{same_time, same_expiry, no_value, kind_bits, cell_flags, timestamp_bytes, ttl_bytes, expiry_bytes, value_bytes, last_bytes, tail_bytes, cell_bytes, cell_form}
use Rattle.write_form.specs.Clusterings.{clustering_bytes}
use Rattle.write_accept.specs.Tests.{bad_clustering, bad_cell}
use Rattle.write_accept.specs.Entries.{value_of, cell_of}
use Rattle.write_accept.proofs.Lying.{clustering_lies, cell_lies}
use Rattle.write_cell.specs.Sizes.{value_size, cell_size}
use Rattle.write_cell.proofs.Sizes.{value_size_lem, cell_size_lem}
use Rattle.write_number.proofs.Writing.{shown_len}

-- a cell's bytes, the place of its value aside
pub form_place : (b : Bases) (row : Times) (w : ℕ) (c : Cell) (v : List ℕ) → cell_bytes b row w (cell c.kind c.timestamp c.local c.ttl (span 0 0)) v ≡ cell_bytes b row w c v
unfolding cell_bytes tail_bytes last_bytes value_bytes expiry_bytes ttl_bytes timestamp_bytes cell_flags kind_bits no_value same_expiry same_time
form_place b row w c v = refl

module _ (bytes : List ℕ) (column w : ℕ) (i : Item) where
  module _ (e : bad_clustering bytes column w i ≡ false) where
    pub value_shown : length (show_value bytes (value_of i)) ≡ i.length
    value_shown = shown_len bytes i.offset i.length (clustering_lies bytes column w i e)

    pub value_short : length bytes ≤ 1073741824 → i.length ≤ 1073741824
    value_short l = omega (arith, clustering_lies bytes column w i e)

    pub value_length : length (clustering_bytes w (show_value bytes (value_of i))) ≡ value_size w i.length
    value_length = value_size_lem w _ i.length value_shown

  module _ (e : bad_cell bytes column w i ≡ false) where
    pub cell_short : length bytes ≤ 1073741824 → (cell_of i).value.len ≤ 1073741824
    cell_short l = omega (arith, cell_lies bytes column w i e)

    pub cell_length : (b : Bases) (row : Times) → length (cell_form b row w (show_cell bytes (cell_of i))) ≡ cell_size b row w (cell_of i)
    cell_length b row =
        ap length (form_place b row w (cell_of i) (show_value bytes (cell_of i).value))
        ∙ cell_size_lem b row w (cell_of i) _ (shown_len bytes (cell_of i).value.start (cell_of i).value.len (cell_lies bytes column w i e))
