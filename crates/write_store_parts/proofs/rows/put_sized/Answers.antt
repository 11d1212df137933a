use Rattle.write_store_parts.proofs.Stored.{sized}
use borrow.Author.Rules.{rules}
use Rattle.write_store_parts.proofs.rows.put_sized.Goals as goal

pub put_sizes-out-requires : goal.put_sizes-out-requires
put_sizes-out-requires c = search (sized, rules)

pub put_deletions-requires : goal.put_deletions-requires
put_deletions-requires c = search (sized, rules)

pub returns : goal.returns
returns c = search (sized, rules)
