use Rattle.list_call.proofs.PutRows.{rows}
use borrow.Author.Rules.{rules}
use Rattle.list_call.proofs.fills.put_row.Goals as goal

pub put_static-out-requires : goal.put_static-out-requires
put_static-out-requires c = search (rows, rules) depth 12

pub returns-then-row-eq1 : goal.returns-then-row-eq1
returns-then-row-eq1 c = search (rows, rules) depth 12

pub put_plain-out-requires : goal.put_plain-out-requires
put_plain-out-requires c = search (rows, rules) depth 12

pub returns : goal.returns
returns c = search (rows, rules) depth 12

pub known_row-next-requires : goal.known_row-next-requires
known_row-next-requires c = search (rows, rules) depth 12
