use Rattle.write_number.proofs.Writing.{put_value}
use borrow.Author.Rules.{rules}
use Rattle.write_cell.proofs.values.put_value.Goals as goal

pub returns-then-len-eq0 : goal.returns-then-len-eq0
returns-then-len-eq0 c = search (put_value, rules)

pub put_field-requires : goal.put_field-requires
put_field-requires c = search (put_value, rules)

pub returns : goal.returns
returns c = search (put_value, rules)
