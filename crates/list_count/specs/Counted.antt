-- How many items are listed of what is read, with n before them. Assumes nothing.
use Rattle.std.specs.Prelude.{ℕ, ◌+◌, List, length}
use Rattle.std.proofs.Math.Option.{Option}
use Rattle.common.specs.Got.{Got, got, bad, ◌>>=◌, filled}
use Rattle.common.specs.declared.times.Bases.{Bases}
use Rattle.data_field.specs.declared.fields.Deletion.{Deletion}
use Rattle.data_cell.specs.declared.cells.Times.{Times}
use Rattle.data_cell.specs.declared.cells.Cell.{Cell}
use Rattle.data_contents.specs.Contents.{Entry, Contents, open_behind, cells_at, cells_listed, entry_listed, entries_listed, listed}

-- the cells of columns whose widths are ws, which fill what is before stop: as `body_cells_at` of the row's times, its columns present and the
-- body's end
unfoldable pub whole_cells_at : Bases → Times → List ℕ → ℕ → List ℕ → ℕ → ℕ → Got (List (Option Cell))
whole_cells_at b row ws present s at stop = (cells_at b row ws present >>= (λ cs. filled cs)) s at stop

unfoldable pub cells_counted : ℕ → Got (List (Option Cell)) → Got ℕ
cells_counted n (got cs p) = got (n + length (cells_listed 0 cs)) p
cells_counted n (bad f p) = bad f p

unfoldable pub entry_counted : ℕ → Got Entry → Got ℕ
entry_counted n (got e p) = got (n + length (entry_listed e)) p
entry_counted n (bad f p) = bad f p

-- and the deletion of the range that is open behind an entry
unfoldable pub marker_counted : ℕ → Deletion → Got Entry → Got (Deletion × ℕ)
marker_counted n opened (got e p) = got (open_behind opened e, n + length (entry_listed e)) p
marker_counted n opened (bad f p) = bad f p

-- entries and the end byte
unfoldable pub entries_counted : ℕ → Got (List Entry) → Got ℕ
entries_counted n (got es p) = got (n + length (entries_listed es p)) p
entries_counted n (bad f p) = bad f p

unfoldable pub contents_counted : ℕ → Got (List Contents) → Got ℕ
contents_counted n (got ps p) = got (n + length (listed ps)) p
contents_counted n (bad f p) = bad f p
