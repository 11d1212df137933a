use Rattle.call_check.proofs.Schemas.{tables}
use Rattle.list_call.proofs.PutEntries.{storing}
use borrow.Author.Rules.{rules}
use Rattle.list_call.proofs.fills.put_entries.Goals as goal

pub loop-value-init : goal.loop-value-init
loop-value-init c = search (storing, tables, rules) depth 12

pub put_record-out-requires : goal.put_record-out-requires
put_record-out-requires c = search (storing, tables, rules) depth 12

pub returns-then-value-eq1 : goal.returns-then-value-eq1
returns-then-value-eq1 c = search (storing, tables, rules) depth 12

pub put_marker-behind-requires : goal.put_marker-behind-requires
put_marker-behind-requires c = search (storing, tables, rules) depth 12

pub loop-value-smaller-then-value-eq2 : goal.loop-value-smaller-then-value-eq2
loop-value-smaller-then-value-eq2 c = search (storing, tables, rules) depth 12

pub loop-value-preserved-then-value-eq2 : goal.loop-value-preserved-then-value-eq2
loop-value-preserved-then-value-eq2 c = search (storing, tables, rules) depth 12

pub put_row-behind-requires : goal.put_row-behind-requires
put_row-behind-requires c = search (storing, tables, rules) depth 12

pub loop-value-smaller : goal.loop-value-smaller
loop-value-smaller c = search (storing, tables, rules) depth 12

pub loop-value-preserved : goal.loop-value-preserved
loop-value-preserved c = search (storing, tables, rules) depth 12

pub returns-in_default : goal.returns-in_default
returns-in_default c = search (storing, tables, rules) depth 12
