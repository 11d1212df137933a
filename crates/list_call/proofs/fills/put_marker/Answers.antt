use Rattle.call_check.proofs.Schemas.{tables}
use Rattle.list_call.proofs.PutMarkers.{markers}
use borrow.Author.Rules.{rules}
use Rattle.list_call.proofs.fills.put_marker.Goals as goal

pub put_bound-out-requires : goal.put_bound-out-requires
put_bound-out-requires c = search (markers, tables, rules) depth 12

pub returns-in_default : goal.returns-in_default
returns-in_default c = search (markers, tables, rules) depth 12

pub returns : goal.returns
returns c = search (markers, tables, rules) depth 12
