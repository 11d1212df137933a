use Rattle.common.proofs.Choose.{cases}
use Rattle.common.proofs.Said.{trying, tried, places, place_again}
use Rattle.scylla_sharding.proofs.Regions.{ends}
use Rattle.scylla_file.specs.Bodies.{string_at}
use borrow.Author.Rules.{rules}
use Rattle.scylla_file.proofs.body.skip_string.Goals as goal

pub returns-in_err-len : goal.returns-in_err-len
unfolding string_at
returns-in_err-len c = place_again _ _ _ c.from_residual.ensures (search (places, trying, cases) depth 12)

pub overflow_add-result : goal.overflow_add-result
overflow_add-result c = search (ends, tried _ _ _ c.branch-len.ensures c.in_ok-len.is, rules)

pub returns : goal.returns
unfolding string_at
returns c = search (places, trying, cases) depth 12
