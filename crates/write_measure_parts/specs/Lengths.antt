-- How long clustering values and cells that the writer takes are in its form. Assumes nothing.
use Rattle.std.specs.Prelude.{ℕ, ◌+◌, ◌-◌, ◌^◌, ◌≡◌, Bool, true, false, List, eqb, length, get_or}
use Rattle.std.proofs.Math.Option.{Option}
use Rattle.common.specs.Choose.{pick}
use Rattle.common.specs.Got.{Got, got, bad, Reader}
use Rattle.common.specs.declared.times.Bases.{Bases}
use Rattle.data_field.specs.declared.fields.Span.{Span}
use Rattle.data_cell.specs.declared.cells.Times.{Times}
use Rattle.data_cell.specs.declared.cells.Cell.{Cell}
use Rattle.write_form.specs.Views.{show_values, show_cells}
use Rattle.write_form.specs.Clusterings.{header_of, values_bytes}
use Rattle.write_form.specs.Rows.{missing_of, cells_bytes}
use Rattle.write_accept.specs.Entries.{taken_values, taken_prefix}

-- ---- clustering values
-- those of a row, which has all, or of a marker
unfoldable pub taken_clustering : Bool → Bases → List ℕ → ℕ → List ℕ → Reader (List Span)
taken_clustering true = taken_values
taken_clustering false = taken_prefix

-- whether the record at at is not the next of them: of a row, each must be there
unfoldable pub is_over : Bool → List ℕ → ℕ → Bool
is_over whole s at = pick whole false (pick (eqb (get_or s at 0) 5) false true)

-- the header's bit of column i, whose value has n bytes
unfoldable pub empty_bit : ℕ → ℕ → ℕ
empty_bit n i = pick (eqb n 0) (4 ^ i) 0

-- how many there are, their header's bits, and how long they are without it
unfoldable pub clustering_measured : List ℕ → List ℕ → Got (List Span) → Got (ℕ × ℕ × ℕ)
clustering_measured bytes ws (got vs n) = got (length vs, header_of (show_values bytes vs), length (values_bytes ws (show_values bytes vs))) n
clustering_measured bytes ws (bad f p) = bad f p

-- ---- cells
-- the column of the cell at at, 256 where no cell stands there
unfoldable pub cell_column : List ℕ → ℕ → ℕ
cell_column s at = pick (eqb (get_or s at 0) 6) (get_or s (at + 2) 0) 256

-- the bits of the columns from i up to j
unfoldable pub columns_from : ℕ → ℕ → ℕ
columns_from i j = 2 ^ j - 2 ^ i

-- a bit for each missing column, and how long the cells are, in a row of these times
unfoldable pub cells_measured : Bases → Times → List ℕ → List ℕ → Got (List (Option Cell)) → Got (ℕ × ℕ)
cells_measured b row bytes ws (got cs n) = got (missing_of (show_cells bytes cs), length (cells_bytes b row ws (show_cells bytes cs))) n
cells_measured b row bytes ws (bad f p) = bad f p

-- ---- a table that was checked
-- x is known to be taken
pub record Known {A : Type 0} (x : Got A) : Type 0 where
  pub value : A
  pub place : ℕ
  pub is : x ≡ got value place
