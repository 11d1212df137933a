use Rattle.write_store.proofs.PutRows.{records}
use borrow.Author.Rules.{rules}
use Rattle.write_store.proofs.entries.read_head.Goals as goal

pub returns : goal.returns
returns c = search (records, rules)
