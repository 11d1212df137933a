use Rattle.text.proofs.Texts.{starts}
use borrow.Author.Rules.{rules}
use Rattle.text.proofs.starts_with.Goals as goal

pub returns-then-s-n : goal.returns-then-s-n
returns-then-s-n c = search (starts, rules)

pub returns : goal.returns
returns c = search (starts, rules)
