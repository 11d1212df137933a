use Rattle.data_row_reread.proofs.KnownPrefixes.{prefixes}
use Rattle.common.proofs.Choose.{cases}
use Rattle.data_clustering.specs.Prefixes.{clustering_at}
use borrow.Author.Rules.{rules}
use Rattle.data_row_reread.proofs.prefixes.known_clustering.Goals as goal

pub returns-then-header-eq1 : goal.returns-then-header-eq1
unfolding clustering_at
returns-then-header-eq1 c = search (prefixes, cases, rules) depth 12

pub known_value-requires : goal.known_value-requires
known_value-requires c = search (prefixes, rules) depth 12

pub returns : goal.returns
unfolding clustering_at
returns c = search (prefixes, cases, rules) depth 12
