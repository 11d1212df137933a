use Rattle.write_store_parts.proofs.PutValues.{one_value}
use borrow.Author.Rules.{rules}
use Rattle.write_store_parts.proofs.parts.put_value.Goals as goal

pub span_at-v-requires : goal.span_at-v-requires
span_at-v-requires c = search (one_value, rules) depth 12

pub put_value-requires : goal.put_value-requires
put_value-requires c = search (one_value, rules) depth 12

pub returns : goal.returns
returns c = search (one_value, rules) depth 12
