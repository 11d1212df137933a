use Rattle.common.proofs.Puts.{room_left, room_right, puts_then}
use Rattle.write_store_parts.specs.Again.{content_again}
use borrow.Author.Rules.{rules}
use Rattle.write_store_parts.proofs.rows.put_content.Goals as goal

pub put_head-out-requires : goal.put_head-out-requires
unfolding content_again
put_head-out-requires c = search (room_left, room_right, puts_then, rules)

pub put_cells-requires : goal.put_cells-requires
unfolding content_again
put_cells-requires c = search (room_left, room_right, puts_then, rules)

pub returns : goal.returns
unfolding content_again
returns c = search (room_left, room_right, puts_then, rules)
