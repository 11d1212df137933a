use Rattle.list_call.proofs.PutMarkers.{bounds}
use borrow.Author.Rules.{rules}
use Rattle.list_call.proofs.fills.put_bound.Goals as goal

pub put_record-out-requires : goal.put_record-out-requires
put_record-out-requires c = search (bounds, rules) depth 12

pub put_values-requires : goal.put_values-requires
put_values-requires c = search (bounds, rules) depth 12

pub returns : goal.returns
returns c = search (bounds, rules) depth 12
