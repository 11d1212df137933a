use Rattle.data_row_reread.proofs.KnownRows.{rows}
use borrow.Author.Rules.{rules}
use Rattle.data_row_reread.proofs.rows.known_row.Goals as goal

pub known_byte-flags-requires : goal.known_byte-flags-requires
known_byte-flags-requires c = search (rows, rules) depth 12

pub known_rest-requires : goal.known_rest-requires
known_rest-requires c = search (rows, rules) depth 12

pub returns : goal.returns
returns c = search (rows, rules) depth 12

pub known_extended-x-requires : goal.known_extended-x-requires
known_extended-x-requires c = search (rows, rules) depth 12
