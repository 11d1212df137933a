use Rattle.call_check.proofs.Schemas.{tables}
use Rattle.list_call.proofs.Loops.{fills}
use borrow.Author.Rules.{rules}
use Rattle.list_call.proofs.lists.fill.Goals as goal

pub put_contents-requires : goal.put_contents-requires
put_contents-requires c = search (fills, tables, rules) depth 12

pub returns : goal.returns
returns c = search (fills, tables, rules) depth 12
