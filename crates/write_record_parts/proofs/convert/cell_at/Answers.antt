use Rattle.write_record_parts.proofs.Places.{places}
use borrow.Author.Rules.{rules}
use Rattle.write_record_parts.proofs.convert.cell_at.Goals as goal

pub returns-then-flags-eq1 : goal.returns-then-flags-eq1
returns-then-flags-eq1 c = search (places, rules)

pub returns-then-flags-eq1-2 : goal.returns-then-flags-eq1-2
returns-then-flags-eq1-2 c = search (places, rules)

pub returns : goal.returns
returns c = search (places, rules)
