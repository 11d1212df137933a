use Rattle.number_varint.proofs.Varints.{put_varint}
use borrow.Author.Rules.{rules}
use Rattle.number_varint.proofs.put_in.Goals as goal

pub bounds-d-at : goal.bounds-d-at
bounds-d-at c = search (put_varint, rules)

pub put_in-requires : goal.put_in-requires
put_in-requires c = search (put_varint, rules)

pub returns : goal.returns
returns c = search (put_varint, rules)
