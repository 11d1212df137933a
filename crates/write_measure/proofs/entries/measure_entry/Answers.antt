use Rattle.write_measure.proofs.Rows.{kinds}
use borrow.Author.Rules.{rules}
use Rattle.write_measure.proofs.entries.measure_entry.Goals as goal

pub returns-then-kind-eq2 : goal.returns-then-kind-eq2
returns-then-kind-eq2 c = search (kinds, rules) depth 12

pub returns-then-kind-eq3 : goal.returns-then-kind-eq3
returns-then-kind-eq3 c = search (kinds, rules) depth 12

pub returns-then-kind-eq4 : goal.returns-then-kind-eq4
returns-then-kind-eq4 c = search (kinds, rules) depth 12

pub returns : goal.returns
returns c = search (kinds, rules) depth 12
