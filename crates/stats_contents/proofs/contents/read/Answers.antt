use Rattle.common.proofs.Choose.{cases}
use Rattle.common.proofs.Said.{trying, said_again}
use Rattle.stats_contents.proofs.Pairs.{count_small}
use Rattle.stats_contents.specs.Contents.{contents_at, present}
use borrow.Author.Rules.{rules}
use Rattle.stats_contents.proofs.contents.read.Goals as goal

pub pairs-requires : goal.pairs-requires
pairs-requires c = search (count_small, rules)

pub returns-in_err-n : goal.returns-in_err-n
unfolding contents_at present
returns-in_err-n c = said_again _ _ _ c.from_residual.ensures (search (trying, cases) depth 12)

pub returns-in_err-contents : goal.returns-in_err-contents
unfolding contents_at present
returns-in_err-contents c = said_again _ _ _ c.from_residual-in_err-contents.ensures (search (trying, cases) depth 12)

pub returns-then-contents-eq0 : goal.returns-then-contents-eq0
unfolding contents_at present
returns-then-contents-eq0 c = search (trying, cases) depth 12 fits 4000

pub returns-then-contents-eq0-2 : goal.returns-then-contents-eq0-2
unfolding contents_at present
returns-then-contents-eq0-2 c = search (trying, cases) depth 12 fits 4000

pub returns : goal.returns
unfolding contents_at present
returns c = search (trying, cases) depth 12 fits 4000
