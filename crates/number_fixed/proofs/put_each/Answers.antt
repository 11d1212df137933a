use Rattle.common.proofs.Puts.{stores}
use Rattle.number_fixed.proofs.BigEndian.{length_bytes_of, byte_is}
use borrow.Author.Rules.{rules}
use Rattle.number_fixed.proofs.put_each.Goals as goal

pub loop-i-init : goal.loop-i-init
loop-i-init c = search (length_bytes_of, byte_is, stores, rules)

pub overflow_sub-n : goal.overflow_sub-n
overflow_sub-n c = search (length_bytes_of, byte_is, stores, rules)

pub overflow_sub-n-in-loop-i : goal.overflow_sub-n-in-loop-i
overflow_sub-n-in-loop-i c = search (length_bytes_of, byte_is, stores, rules)

pub byte_of-requires : goal.byte_of-requires
byte_of-requires c = search (length_bytes_of, byte_is, stores, rules)

pub overflow_add-d : goal.overflow_add-d
overflow_add-d c = search (length_bytes_of, byte_is, stores, rules)

pub bounds-d-at : goal.bounds-d-at
bounds-d-at c = search (length_bytes_of, byte_is, stores, rules)

pub loop-i-smaller : goal.loop-i-smaller
loop-i-smaller c = search (length_bytes_of, byte_is, stores, rules)

pub loop-i-preserved : goal.loop-i-preserved
loop-i-preserved c = search (length_bytes_of, byte_is, stores, rules)

pub overflow_add-result : goal.overflow_add-result
overflow_add-result c = search (length_bytes_of, byte_is, stores, rules)

pub shape_of-d : goal.shape_of-d
shape_of-d c = search (length_bytes_of, byte_is, stores, rules)

pub returns : goal.returns
returns c = search (length_bytes_of, byte_is, stores, rules)
