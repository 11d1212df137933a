use Rattle.write_number.proofs.Writing.{put_content}
use borrow.Author.Rules.{rules}
use Rattle.write_cell.proofs.cells.put_content.Goals as goal

pub returns-then-no_value-eq1 : goal.returns-then-no_value-eq1
returns-then-no_value-eq1 c = search (put_content, rules)

pub put_field-requires : goal.put_field-requires
put_field-requires c = search (put_content, rules)

pub returns : goal.returns
returns c = search (put_content, rules)
