use Rattle.write_store.proofs.Entered.{entering}
use borrow.Author.Rules.{rules}
use Rattle.write_store.proofs.whole.put_entry.Goals as goal

pub put_static-behind-requires : goal.put_static-behind-requires
put_static-behind-requires c = search (entering, rules) depth 12

pub returns-then-kind-eq2 : goal.returns-then-kind-eq2
returns-then-kind-eq2 c = search (entering, rules) depth 12

pub put_row-behind-requires : goal.put_row-behind-requires
put_row-behind-requires c = search (entering, rules) depth 12

pub returns-then-kind-eq3 : goal.returns-then-kind-eq3
returns-then-kind-eq3 c = search (entering, rules) depth 12

pub put_marker-behind-requires : goal.put_marker-behind-requires
put_marker-behind-requires c = search (entering, rules) depth 12

pub returns : goal.returns
returns c = search (entering, rules) depth 12
