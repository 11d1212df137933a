use mathlib.Core.Path.{refl}
use Rattle.type_table.specs.Table.{line_of, nth, no_line, table}
use Rattle.schema_check.specs.Runs.{all_widths, each_below}
use Rattle.schema_check.proofs.Whole.{whole}
use borrow.Author.Rules.{rules}
use Rattle.schema_check.proofs.records.read_records.Goals as goal

pub run-keys-requires : goal.run-keys-requires
unfolding all_widths each_below line_of nth no_line table
run-keys-requires c = search (refl, rules)

pub returns-then-keys-eq0 : goal.returns-then-keys-eq0
returns-then-keys-eq0 c = search (whole, rules)

pub run-clustering-requires : goal.run-clustering-requires
unfolding all_widths each_below line_of nth no_line table
run-clustering-requires c = search (refl, rules)

pub run-statics-requires : goal.run-statics-requires
unfolding all_widths each_below line_of nth no_line table
run-statics-requires c = search (refl, rules)

pub run-regulars-requires : goal.run-regulars-requires
unfolding all_widths each_below line_of nth no_line table
run-regulars-requires c = search (refl, rules)

pub returns-then-end-s : goal.returns-then-end-s
returns-then-end-s c = search (whole, rules)

pub returns : goal.returns
returns c = search (whole, rules)
