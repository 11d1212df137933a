use Rattle.common.proofs.Choose.{cases}
use Rattle.common.proofs.Said.{trying, said_again}
use Rattle.data_row.proofs.Parts.{parts}
use Rattle.data_row.specs.Rows.{row_at}
use borrow.Author.Rules.{rules}
use Rattle.data_row.proofs.rows.read_row.Goals as goal

pub read_rest-requires : goal.read_rest-requires
read_rest-requires c = search (parts, rules)

pub returns-in_err-f : goal.returns-in_err-f
unfolding row_at
returns-in_err-f c = said_again _ _ _ c.from_residual.ensures (search (parts, trying, cases) depth 12)

pub returns-in_err-x : goal.returns-in_err-x
unfolding row_at
returns-in_err-x c = said_again _ _ _ c.from_residual-in_err-x.ensures (search (parts, trying, cases) depth 12)

pub returns : goal.returns
unfolding row_at
returns c = search (parts, trying, cases) depth 12
