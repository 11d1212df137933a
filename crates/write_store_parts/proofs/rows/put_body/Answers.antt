use Rattle.write_store_parts.proofs.Stored.{bodies}
use borrow.Author.Rules.{rules}
use Rattle.write_store_parts.proofs.rows.put_body.Goals as goal

pub put_sizes-out-requires : goal.put_sizes-out-requires
put_sizes-out-requires c = search (bodies, rules)

pub put_content-requires : goal.put_content-requires
put_content-requires c = search (bodies, rules)

pub returns : goal.returns
returns c = search (bodies, rules)
