use Rattle.sstable.proofs.Varints.{reads_varint}
use borrow.Author.Rules.{rules}
use Rattle.sstable.proofs.varint.read_words.Goals as goal

pub returns-then-bytes-gt1073741824 : goal.returns-then-bytes-gt1073741824
returns-then-bytes-gt1073741824 c = search (reads_varint, rules)

pub returns-in-Ok : goal.returns-in-Ok
returns-in-Ok c = search (reads_varint, rules)

pub returns-in-Err : goal.returns-in-Err
returns-in-Err c = search (reads_varint, rules)
