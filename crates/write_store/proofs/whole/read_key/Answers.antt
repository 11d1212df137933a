use Rattle.write_store.proofs.PutContents.{key_is}
use borrow.Author.Rules.{rules}
use Rattle.write_store.proofs.whole.read_key.Goals as goal

pub returns : goal.returns
returns c = search (key_is, rules)
