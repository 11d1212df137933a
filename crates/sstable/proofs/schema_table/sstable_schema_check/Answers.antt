use Rattle.sstable.proofs.Statistics.{schema_checked}
use borrow.Author.Rules.{rules}
use Rattle.sstable.proofs.schema_table.sstable_schema_check.Goals as goal

pub returns : goal.returns
returns c = search (schema_checked, rules)
