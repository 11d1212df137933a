use Rattle.write_number.proofs.Writing.{put_field}
use borrow.Author.Rules.{rules}
use Rattle.write_cell.proofs.values.put_field.Goals as goal

pub put_length-p-requires : goal.put_length-p-requires
put_length-p-requires c = search (put_field, rules)

pub put_part-requires : goal.put_part-requires
put_part-requires c = search (put_field, rules)

pub returns : goal.returns
returns c = search (put_field, rules)
