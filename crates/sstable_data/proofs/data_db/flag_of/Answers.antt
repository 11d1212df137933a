use Rattle.common.proofs.Choose.{cases, told}
use Rattle.sstable_data.specs.Data.{flag_of}
use borrow.Author.Rules.{rules}
use Rattle.sstable_data.proofs.data_db.flag_of.Goals as goal

pub returns-then-x-eq0 : goal.returns-then-x-eq0
unfolding flag_of
returns-then-x-eq0 c = search (told, cases, rules) depth 12

pub returns : goal.returns
unfolding flag_of
returns c = search (told, cases, rules) depth 12
