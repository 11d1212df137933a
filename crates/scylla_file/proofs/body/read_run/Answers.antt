use Rattle.common.proofs.Choose.{cases}
use Rattle.common.proofs.Said.{trying, said_again}
use Rattle.scylla_file.specs.Bodies.{run_at}
use Rattle.scylla_file.proofs.body.read_run.Goals as goal

pub returns-in_err-high : goal.returns-in_err-high
unfolding run_at
returns-in_err-high c = said_again _ _ _ c.from_residual.ensures (search (trying, cases) depth 12)

pub returns-in_err-low : goal.returns-in_err-low
unfolding run_at
returns-in_err-low c = said_again _ _ _ c.from_residual-in_err-low.ensures (search (trying, cases) depth 12)

pub returns-then-next-end : goal.returns-then-next-end
unfolding run_at
returns-then-next-end c = search (trying, cases) depth 12

pub returns : goal.returns
unfolding run_at
returns c = search (trying, cases) depth 12
