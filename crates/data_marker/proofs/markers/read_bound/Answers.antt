use Rattle.common.proofs.Choose.{cases}
use Rattle.common.proofs.Said.{trying, said_again}
use Rattle.data_marker.specs.Markers.{bound_at}
use Rattle.data_marker.proofs.Counts.{count_of, prefix_of, count_fits}
use borrow.Author.Rules.{rules}
use Rattle.data_marker.proofs.markers.read_bound.Goals as goal

pub read_prefix-requires : goal.read_prefix-requires
read_prefix-requires c = search (count_fits, rules)

pub returns-in_err-count : goal.returns-in_err-count
unfolding bound_at
returns-in_err-count c = said_again _ _ _ c.from_residual.ensures (search (trying, cases, count_of) depth 12)

pub returns-in_err-prefix : goal.returns-in_err-prefix
unfolding bound_at
returns-in_err-prefix c = said_again _ _ _ c.from_residual-in_err-prefix.ensures (search (trying, cases, count_of, prefix_of) depth 12)

pub returns-in_err-deletions : goal.returns-in_err-deletions
unfolding bound_at
returns-in_err-deletions c = said_again _ _ _ c.from_residual-in_err-deletions.ensures (search (trying, cases, count_of, prefix_of) depth 12)

pub returns : goal.returns
unfolding bound_at
returns c = search (trying, cases, count_of, prefix_of) depth 12
