use Rattle.sstable.proofs.Varints.{puts_varint}
use Rattle.common.proofs.Puts.{puts_same}
use borrow.Author.Rules.{rules}
use Rattle.sstable.proofs.varint.put_words.Goals as goal

pub returns-then-out-gt1073741824 : goal.returns-then-out-gt1073741824
returns-then-out-gt1073741824 c = search (puts_varint, puts_same, rules)

pub returns-then-out-len : goal.returns-then-out-len
returns-then-out-len c = search (puts_varint, rules)

pub returns : goal.returns
returns c = search (puts_varint, rules)
