use Rattle.list.proofs.Printed.{pages_less}
use borrow.Author.Rules.{rules}
use Rattle.list.proofs.report.print_lines.Goals as goal

pub loop-cursor-smaller : goal.loop-cursor-smaller
loop-cursor-smaller g c = search (pages_less, rules)
