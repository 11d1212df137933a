use Rattle.common.proofs.Choose.{cases, told}
use Rattle.common.proofs.Said.{trying, said_again}
use Rattle.stats_file.specs.Header.{name_at}
use Rattle.number_varint.proofs.Varints.{varint_within}
use Rattle.std.proofs.Common.{rules}
use Rattle.stats_file.proofs.columns.read_name.Goals as goal

pub overflow_sub-end : goal.overflow_sub-end
overflow_sub-end c = search (varint_within, rules)

pub returns-then-is_named : goal.returns-then-is_named
unfolding name_at
returns-then-is_named c = search (varint_within, told, trying, cases, rules) depth 12

pub returns-in_err-value : goal.returns-in_err-value
unfolding name_at
returns-in_err-value c = said_again _ _ _ c.from_residual.ensures (search (trying, cases, rules) depth 12)

pub returns-then-end-start : goal.returns-then-end-start
unfolding name_at
returns-then-end-start c = search (trying, cases, rules) depth 12

pub returns : goal.returns
unfolding name_at
returns c = search (varint_within, told, trying, cases, rules) depth 12
