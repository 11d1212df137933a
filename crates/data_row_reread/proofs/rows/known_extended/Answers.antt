use Rattle.data_row_reread.proofs.KnownRows.{rows}
use borrow.Author.Rules.{rules}
use Rattle.data_row_reread.proofs.rows.known_extended.Goals as goal

pub known_byte-requires : goal.known_byte-requires
known_byte-requires c = search (rows, rules) depth 12

pub returns-then-f-eq1 : goal.returns-then-f-eq1
returns-then-f-eq1 c = search (rows, rules) depth 12

pub returns : goal.returns
returns c = search (rows, rules) depth 12
