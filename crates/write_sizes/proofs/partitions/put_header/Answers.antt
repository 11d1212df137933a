use Rattle.write_row_parts.proofs.Writing.{put_header}
use borrow.Author.Rules.{rules}
use Rattle.write_sizes.proofs.partitions.put_header.Goals as goal

pub put_in-p-requires : goal.put_in-p-requires
put_in-p-requires c = search (put_header, rules)

pub put_key-requires : goal.put_key-requires
put_key-requires c = search (put_header, rules)

pub returns : goal.returns
returns c = search (put_header, rules)
