use Rattle.common.proofs.Said.{said_again, tried, failed}
use Rattle.write_measure.proofs.Rows.{rows}
use Rattle.call_check.proofs.Schemas.{tables}
use borrow.Author.Rules.{rules}
use Rattle.write_measure.proofs.entries.measure_static_rest.Goals as goal

pub static_len-size-requires : goal.static_len-size-requires
static_len-size-requires c = search (tried _ _ _ c.branch-missing.ensures c.in_ok-missing.is, rows, tables, rules) depth 12

pub returns-in_err-missing : goal.returns-in_err-missing
returns-in_err-missing c = said_again _ _ _ c.from_residual.ensures (search (failed _ _ _ c.branch-missing.ensures c.in_err-missing.is, rows, tables, rules) depth 12)

pub returns : goal.returns
returns c = search (tried _ _ _ c.branch-missing.ensures c.in_ok-missing.is, rows, tables, rules) depth 12
