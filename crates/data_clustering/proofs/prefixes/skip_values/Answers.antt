use Rattle.common.proofs.Said.{place_again}
use Rattle.data_clustering.proofs.Loops.{skipping}
use borrow.Author.Rules.{rules}
use Rattle.data_clustering.proofs.prefixes.skip_values.Goals as goal

pub loop-init : goal.loop-init
loop-init c = search (skipping, rules)

pub overflow_add-width : goal.overflow_add-width
overflow_add-width c = search (skipping, rules)

pub bounds-schema-column : goal.bounds-schema-column
bounds-schema-column c = search (skipping, rules)

pub read_clustering-requires : goal.read_clustering-requires
read_clustering-requires c = search (skipping, rules)

pub enum_known-next : goal.enum_known-next
enum_known-next c = search (skipping, rules)

pub overflow_add-column : goal.overflow_add-column
overflow_add-column c = search (skipping, rules)

pub loop-smaller : goal.loop-smaller
loop-smaller c = search (skipping, rules)

pub loop-preserved : goal.loop-preserved
loop-preserved c = search (skipping, rules)

pub returns : goal.returns
returns c = search (skipping, rules)

pub returns-in_err-next : goal.returns-in_err-next
returns-in_err-next c = place_again _ _ _ c.from_residual.ensures (search (skipping, rules))
