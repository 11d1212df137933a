use Rattle.common.proofs.Choose.{cases, told}
use Rattle.sstable_data.specs.Data.{position_in}
use borrow.Author.Rules.{rules}
use Rattle.sstable_data.proofs.data_db.position_in.Goals as goal

pub returns-then-w-gt6 : goal.returns-then-w-gt6
unfolding position_in
returns-then-w-gt6 c = search (told, cases, rules) depth 12

pub returns : goal.returns
unfolding position_in
returns c = search (told, cases, rules) depth 12
