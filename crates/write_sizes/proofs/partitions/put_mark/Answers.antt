use Rattle.write_row_parts.proofs.Writing.{numbers}
use borrow.Author.Rules.{rules}
use Rattle.write_sizes.proofs.partitions.put_mark.Goals as goal

pub put_in-requires : goal.put_in-requires
put_in-requires c = search (numbers, rules) depth 12

pub returns : goal.returns
returns c = search (numbers, rules) depth 12
