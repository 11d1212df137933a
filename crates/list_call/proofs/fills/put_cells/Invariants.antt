use Rattle.list_call.proofs.PutCells.{Putting}
use Rattle.list_call.specs.Parts.{cells_of}
use Rattle.list_call.specs.Records.{records_of}
use Rattle.list_count.specs.Counted.{whole_cells_at}
use Rattle.data_clustering.specs.Prefixes.{widths_at}
use Rattle.list_call.proofs.fills.put_cells.Given as goal

abbrev pub invariant-loop-left : goal.invariant-loop-left
invariant-loop-left l = Putting (records_of (cells_of (whole_cells_at l.b l.times (widths_at l.c l.base l.k) l.present l.s l.at l.stop))) l.b l.times l.c l.s l.stop l.initial.d l.d l.to l.left l.column l.i l.p l.out

abbrev pub decreases-loop-left : goal.decreases-loop-left
decreases-loop-left l = l.left
