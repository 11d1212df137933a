use Rattle.print_line.proofs.Puts.{puts_byte}
use borrow.Author.Rules.{rules}
use Rattle.print_line.proofs.numbers.put_byte.Goals as goal

pub returns : goal.returns
returns c = search (puts_byte, rules)
