use Rattle.stats_file.proofs.Records.{heads}
use Rattle.std.proofs.Common.{rules}
use Rattle.stats_file.proofs.columns.put_head.Goals as goal

pub bounds-d-at : goal.bounds-d-at
bounds-d-at c = search (heads, rules)

pub bounds-d-at-2 : goal.bounds-d-at-2
bounds-d-at-2 c = search (heads, rules)

pub bounds-d-at-3 : goal.bounds-d-at-3
bounds-d-at-3 c = search (heads, rules)

pub bounds-d-at-4 : goal.bounds-d-at-4
bounds-d-at-4 c = search (heads, rules)

pub returns : goal.returns
returns c = search (heads, rules)
