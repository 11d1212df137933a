use Rattle.common.proofs.Said.{said_err}
use Rattle.list_count.proofs.Entries.{ends}
use borrow.Author.Rules.{rules}
use Rattle.list_count.proofs.counts.count_end.Goals as goal

pub returns-then-opened-eq0 : goal.returns-then-opened-eq0
returns-then-opened-eq0 c = search (ends, rules) depth 12

pub returns : goal.returns
returns c = search (ends, rules, said_err) depth 12
