use Rattle.write_number.proofs.Writing.{writing}
use borrow.Author.Rules.{rules}
use Rattle.write_number.proofs.numbers.delta_len.Goals as goal

pub returns : goal.returns
returns c = search (writing, rules) depth 12
