use Rattle.write_store.proofs.PutContents.{partitioning}
use borrow.Author.Rules.{rules}
use Rattle.write_store.proofs.whole.put_partition.Goals as goal

pub put_header-first-requires : goal.put_header-first-requires
put_header-first-requires c = search (partitioning, rules) depth 12

pub put_entries-requires : goal.put_entries-requires
put_entries-requires c = search (partitioning, rules) depth 12

pub returns : goal.returns
returns c = search (partitioning, rules) depth 12
