use Rattle.write_store.proofs.PutContents.{filing}
use borrow.Author.Rules.{rules}
use Rattle.write_store.proofs.whole.put_contents.Goals as goal

pub loop-p-init : goal.loop-p-init
loop-p-init c = search (filing, rules) depth 12

pub put_partition-behind-requires : goal.put_partition-behind-requires
put_partition-behind-requires c = search (filing, rules) depth 12

pub loop-p-smaller : goal.loop-p-smaller
loop-p-smaller c = search (filing, rules) depth 12

pub loop-p-preserved : goal.loop-p-preserved
loop-p-preserved c = search (filing, rules) depth 12

pub shape_of-d : goal.shape_of-d
shape_of-d c = search (filing, rules) depth 12

pub returns : goal.returns
returns c = search (filing, rules) depth 12
