use Rattle.common.specs.declared.refusal.Slice.TheVariants.{Statistics, Scylla, Data, Schema, Records, Bytes, Output, Bases, State}
use Rattle.print_line.proofs.Puts.{room_named, puts_named}
use borrow.Author.Rules.{rules}
use Rattle.print_line.proofs.refusals.put_slice.Goals as goal

pub put_text-requires : goal.put_text-requires
put_text-requires c = search (room_named Statistics, rules)

pub put_text-requires-in-Scylla : goal.put_text-requires-in-Scylla
put_text-requires-in-Scylla c = search (room_named Scylla, rules)

pub put_text-requires-in-Data : goal.put_text-requires-in-Data
put_text-requires-in-Data c = search (room_named Data, rules)

pub put_text-requires-in-Schema : goal.put_text-requires-in-Schema
put_text-requires-in-Schema c = search (room_named Schema, rules)

pub put_text-requires-in-Records : goal.put_text-requires-in-Records
put_text-requires-in-Records c = search (room_named Records, rules)

pub put_text-requires-in-Bytes : goal.put_text-requires-in-Bytes
put_text-requires-in-Bytes c = search (room_named Bytes, rules)

pub put_text-requires-in-Output : goal.put_text-requires-in-Output
put_text-requires-in-Output c = search (room_named Output, rules)

pub put_text-requires-in-Bases : goal.put_text-requires-in-Bases
put_text-requires-in-Bases c = search (room_named Bases, rules)

pub put_text-requires-in-State : goal.put_text-requires-in-State
put_text-requires-in-State c = search (room_named State, rules)

pub returns-in-Statistics : goal.returns-in-Statistics
returns-in-Statistics c = search (puts_named Statistics, rules)

pub returns-in-Scylla : goal.returns-in-Scylla
returns-in-Scylla c = search (puts_named Scylla, rules)

pub returns-in-Data : goal.returns-in-Data
returns-in-Data c = search (puts_named Data, rules)

pub returns-in-Schema : goal.returns-in-Schema
returns-in-Schema c = search (puts_named Schema, rules)

pub returns-in-Records : goal.returns-in-Records
returns-in-Records c = search (puts_named Records, rules)

pub returns-in-Bytes : goal.returns-in-Bytes
returns-in-Bytes c = search (puts_named Bytes, rules)

pub returns-in-Output : goal.returns-in-Output
returns-in-Output c = search (puts_named Output, rules)

pub returns-in-Bases : goal.returns-in-Bases
returns-in-Bases c = search (puts_named Bases, rules)

pub returns-in-State : goal.returns-in-State
returns-in-State c = search (puts_named State, rules)
