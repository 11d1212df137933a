use Rattle.common.proofs.Choose.{cases, told}
use Rattle.common.proofs.Said.{trying, said_again}
use Rattle.stats_contents.specs.Contents.{offset_at}
use Rattle.stats_contents.proofs.contents.entry_offset.Goals as goal

pub returns-then-value-gt2147483647 : goal.returns-then-value-gt2147483647
unfolding offset_at
returns-then-value-gt2147483647 c = search (told, trying, cases) depth 12

pub returns-then-end-offset : goal.returns-then-end-offset
unfolding offset_at
returns-then-end-offset c = search (told, trying, cases) depth 12

pub returns-then-offset-start : goal.returns-then-offset-start
unfolding offset_at
returns-then-offset-start c = search (told, trying, cases) depth 12

pub returns-then-is_used : goal.returns-then-is_used
unfolding offset_at
returns-then-is_used c = search (told, trying, cases) depth 12 fits 4000

pub returns-in_err-value : goal.returns-in_err-value
unfolding offset_at
returns-in_err-value c = said_again _ _ _ c.from_residual.ensures (search (trying, cases) depth 12)

pub returns : goal.returns
unfolding offset_at
returns c = search (told, trying, cases) depth 12 fits 4000
