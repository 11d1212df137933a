-- the walk's cursor moves on with each page
use lib.ListN.{length}
use Rattle.data_walk.specs.Walks.{remaining}
use Rattle.list.proofs.report.print_lines.Given as goal

abbrev pub decreases-loop-cursor : goal.decreases-loop-cursor
decreases-loop-cursor g l = remaining (length l.data) l.x
