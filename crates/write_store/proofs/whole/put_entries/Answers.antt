use Rattle.write_store.proofs.PutEntries.{storing}
use borrow.Author.Rules.{rules}
use Rattle.write_store.proofs.whole.put_entries.Goals as goal

pub loop-p-init : goal.loop-p-init
loop-p-init c = search (storing, rules) depth 12

pub bounds-s-p : goal.bounds-s-p
bounds-s-p c = search (storing, rules) depth 12

pub put_byte-out-requires : goal.put_byte-out-requires
put_byte-out-requires c = search (storing, rules) depth 12

pub overflow_add-result : goal.overflow_add-result
overflow_add-result c = search (storing, rules) depth 12

pub shape_of-d-then-s-p-eq7 : goal.shape_of-d-then-s-p-eq7
shape_of-d-then-s-p-eq7 c = search (storing, rules) depth 12

pub returns-then-s-p-eq7 : goal.returns-then-s-p-eq7
returns-then-s-p-eq7 c = search (storing, rules) depth 12

pub put_entry-passed-requires : goal.put_entry-passed-requires
put_entry-passed-requires c = search (storing, rules) depth 12

pub loop-p-smaller : goal.loop-p-smaller
loop-p-smaller c = search (storing, rules) depth 12

pub loop-p-preserved : goal.loop-p-preserved
loop-p-preserved c = search (storing, rules) depth 12
