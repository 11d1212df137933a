use Rattle.write_number.proofs.Writing.{puts_byte}
use borrow.Author.Rules.{rules}
use Rattle.write_number.proofs.numbers.put_byte.Goals as goal

pub returns : goal.returns
returns c = search (puts_byte, rules)
