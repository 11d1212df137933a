use Rattle.data_clustering.specs.Prefixes.{widths_at}
use Rattle.list_count.specs.Counted.{whole_cells_at, cells_counted}
use Rattle.list_count.proofs.Cells.{Counting}
use Rattle.list_count.proofs.counts.count_cells.Given as goal

abbrev pub invariant-loop-left : goal.invariant-loop-left
invariant-loop-left l = Counting (cells_counted l.n (whole_cells_at l.b l.times (widths_at l.c l.base l.k) l.present l.s l.at l.stop)) l.b l.times l.c l.s l.stop l.column l.left l.p l.count

abbrev pub decreases-loop-left : goal.decreases-loop-left
decreases-loop-left l = l.left
