use Rattle.write_row_parts.proofs.Writing.{numbers}
use borrow.Author.Rules.{rules}
use Rattle.write_sizes.proofs.sizes.put_flags.Goals as goal

pub returns : goal.returns
returns c = search (numbers, rules) depth 12
