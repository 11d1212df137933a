use Rattle.list.proofs.Begins.{fit_within}
use borrow.Author.Rules.{rules}
use Rattle.list.proofs.report.print_files.Goals as goal

pub print_listing-requires : goal.print_listing-requires
print_listing-requires g c = search (fit_within, rules)
