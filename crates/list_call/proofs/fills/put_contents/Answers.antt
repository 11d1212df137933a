use Rattle.call_check.proofs.Schemas.{tables}
use Rattle.list_call.proofs.PutContents.{filing}
use borrow.Author.Rules.{rules}
use Rattle.list_call.proofs.fills.put_contents.Goals as goal

pub loop-p-init : goal.loop-p-init
loop-p-init c = search (filing, tables, rules) depth 12

pub put_record-out-requires : goal.put_record-out-requires
put_record-out-requires c = search (filing, tables, rules) depth 12

pub put_entries-behind-requires : goal.put_entries-behind-requires
put_entries-behind-requires c = search (filing, tables, rules) depth 12

pub loop-p-smaller : goal.loop-p-smaller
loop-p-smaller c = search (filing, tables, rules) depth 12

pub loop-p-preserved : goal.loop-p-preserved
loop-p-preserved c = search (filing, tables, rules) depth 12

pub returns : goal.returns
returns c = search (filing, tables, rules) depth 12

pub returns-in_default : goal.returns-in_default
returns-in_default c = search (filing, tables, rules) depth 12
