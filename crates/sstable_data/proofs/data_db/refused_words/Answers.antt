use Rattle.sstable_data.proofs.Data.{refusal_is}
use borrow.Author.Rules.{rules}
use Rattle.sstable_data.proofs.data_db.refused_words.Goals as goal

pub returns : goal.returns
returns c = search (refusal_is, rules)
