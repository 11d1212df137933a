use Rattle.type_name.proofs.Names.{names}
use borrow.Author.Rules.{rules}
use Rattle.type_name.proofs.named.Goals as goal

pub slice_bounds-find-count : goal.slice_bounds-find-count
slice_bounds-find-count c = search (names, rules)

pub slice_bounds-find-start : goal.slice_bounds-find-start
slice_bounds-find-start c = search (names, rules)

pub returns-then-starts_with : goal.returns-then-starts_with
returns-then-starts_with c = search (names, rules)

pub returns-then-among : goal.returns-then-among
returns-then-among c = search (names, rules)

pub returns : goal.returns
returns c = search (names, rules)
