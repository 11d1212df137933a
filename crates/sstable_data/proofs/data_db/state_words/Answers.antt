use Rattle.sstable_data.specs.Data.{state_words}
use Rattle.common.proofs.Choose.{cases, told}
use borrow.Author.Rules.{rules}
use Rattle.sstable_data.proofs.data_db.state_words.Goals as goal

pub returns : goal.returns
unfolding state_words
returns c = search (told, cases, rules) depth 12
