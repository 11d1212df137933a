use Rattle.print_page.specs.Pages.{page_in}
use Rattle.print_page.proofs.Paging.{Paging}
use Rattle.print_page.proofs.fill.Given as goal

abbrev pub invariant-loop : goal.invariant-loop
invariant-loop l = Paging (page_in 16 l.c l.k l.b l.s l.initial.x) l.c l.k l.b l.s l.initial.d l.d l.at l.counter l.x
