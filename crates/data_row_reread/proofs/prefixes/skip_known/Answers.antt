use Rattle.data_row_reread.proofs.KnownPrefixes.{passing_more, prefixes}
use borrow.Author.Rules.{rules}
use Rattle.data_row_reread.proofs.prefixes.skip_known.Goals as goal

pub loop-init : goal.loop-init
loop-init c = search (prefixes, rules) depth 12

pub overflow_add-width : goal.overflow_add-width
overflow_add-width c = search (prefixes, rules) depth 12

pub bounds-schema-column : goal.bounds-schema-column
bounds-schema-column c = search (prefixes, rules) depth 12

pub overflow_add-column : goal.overflow_add-column
overflow_add-column c = search (prefixes, rules) depth 12

pub loop-smaller : goal.loop-smaller
loop-smaller c = search (prefixes, rules) depth 12

pub loop-preserved : goal.loop-preserved
loop-preserved c = passing_more _ _ _ _ _ _ _ _ _ c.loop.invariant c.loop-test.true _ _ c.known_clustering-next.ensures

pub returns : goal.returns
returns c = search (prefixes, rules) depth 12

pub known_clustering-next-requires : goal.known_clustering-next-requires
known_clustering-next-requires c = search (prefixes, rules) depth 12
