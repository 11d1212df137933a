use Rattle.data_row_reread.proofs.KnownRows.{rows}
use Rattle.data_row.specs.Rows.{rest_at}
use borrow.Author.Rules.{rules}
use Rattle.data_row_reread.proofs.rows.known_rest.Goals as goal

pub returns : goal.returns
unfolding rest_at
returns c = search (rows, rules) depth 12

pub known_prefix-next-requires : goal.known_prefix-next-requires
known_prefix-next-requires c = search (rows, rules) depth 12

pub known_body-next-requires : goal.known_body-next-requires
known_body-next-requires c = search (rows, rules) depth 12
