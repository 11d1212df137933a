use Rattle.data_row_reread.proofs.KnownPrefixes.{prefixes}
use Rattle.common.proofs.Choose.{cases}
use Rattle.data_clustering.specs.Prefixes.{header_at}
use borrow.Author.Rules.{rules}
use Rattle.data_row_reread.proofs.prefixes.known_header.Goals as goal

pub returns-then-k-eq0 : goal.returns-then-k-eq0
unfolding header_at
returns-then-k-eq0 c = search (prefixes, cases, rules) depth 12

pub known-requires : goal.known-requires
known-requires c = search (prefixes, rules) depth 12

pub returns : goal.returns
returns c = search (prefixes, cases, rules) depth 12
