use Rattle.common.proofs.Said.{again}
use Rattle.write_call.proofs.Answers.{measuring}
use borrow.Author.Rules.{rules}
use Rattle.write_call.proofs.writes.measure_in.Goals as goal

pub returns-in_err-value : goal.returns-in_err-value
returns-in_err-value c = rw (again _ _ c.from_residual.ensures) (search (measuring, rules) depth 12)

pub returns : goal.returns
returns c = search (measuring, rules) depth 12
