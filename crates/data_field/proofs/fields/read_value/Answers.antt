use Rattle.common.proofs.Choose.{cases, told}
use Rattle.common.proofs.Said.{reading}
use Rattle.data_field.specs.Fields.{value_at}
use borrow.Author.Rules.{rules}
use Rattle.data_field.proofs.fields.read_value.Goals as goal

pub returns-then-width-eq255 : goal.returns-then-width-eq255
unfolding value_at
returns-then-width-eq255 c = search (reading, told, cases, rules) depth 12

pub returns : goal.returns
unfolding value_at
returns c = search (reading, told, cases, rules) depth 12
