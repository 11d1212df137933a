use Rattle.common.proofs.Puts.{room_left, room_right, puts_then}
use Rattle.write_store_parts.specs.Again.{bound_again}
use borrow.Author.Rules.{rules}
use Rattle.write_store_parts.proofs.rows.put_bound.Goals as goal

pub put_bound-prefix-requires : goal.put_bound-prefix-requires
unfolding bound_again
put_bound-prefix-requires c = search (room_left, room_right, puts_then, rules)

pub put_counted-requires : goal.put_counted-requires
unfolding bound_again
put_counted-requires c = search (room_left, room_right, puts_then, rules)

pub returns : goal.returns
unfolding bound_again
returns c = search (room_left, room_right, puts_then, rules)
