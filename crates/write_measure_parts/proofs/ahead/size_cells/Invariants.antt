use Prim.Native.Nat.{◌-◌}
use lib.ListN.{length}
use Rattle.data_clustering.specs.Prefixes.{widths_at}
use Rattle.write_accept.specs.Entries.{taken_cells}
use Rattle.write_measure_parts.specs.Lengths.{cells_measured, Known}
use Rattle.write_measure_parts.proofs.Cells.{Celling}
use Rattle.write_measure_parts.proofs.ahead.size_cells.Given as goal

abbrev pub invariant-loop-i : goal.invariant-loop-i
invariant-loop-i l = Celling (cells_measured l.b l.row l.bytes (widths_at l.c l.base l.k) (taken_cells l.b l.bytes 0 (widths_at l.c l.base l.k) l.s l.at (length l.s))) l.b l.row l.bytes l.c l.s l.base l.k l.i l.p l.missing l.size × Known (cells_measured l.b l.row l.bytes (widths_at l.c l.base l.k) (taken_cells l.b l.bytes 0 (widths_at l.c l.base l.k) l.s l.at (length l.s)))

abbrev pub decreases-loop-i : goal.decreases-loop-i
decreases-loop-i l = length l.s - l.p
