use Rattle.common.specs.Store.{shown}
use Rattle.common.proofs.Choose.{cases}
use Rattle.std.proofs.Common.{arith}
use Rattle.common.proofs.Puts.{shown_whole}
use Rattle.common.proofs.part.shown_in.Goals as goal

pub returns-then-s-start : goal.returns-then-s-start
unfolding shown
returns-then-s-start c = search cases depth 12

pub returns-then-s-start-2 : goal.returns-then-s-start-2
unfolding shown
returns-then-s-start-2 c = search cases depth 12

pub returns : goal.returns
returns c = shown_whole _ _ _ (omega arith) (omega arith)
