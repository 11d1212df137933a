use Rattle.common.proofs.Choose.{cases, told}
use Rattle.common.proofs.Said.{reading}
use Rattle.write_record.proofs.Said.{numbers}
use Rattle.write_record.proofs.Plain.{sole_at, is_row, is_stray, there_fits}
use borrow.Author.Rules.{rules}
use Rattle.write_record.proofs.records.read_row.Goals as goal

pub returns-then-left_of-lt64 : goal.returns-then-left_of-lt64
unfolding sole_at
returns-then-left_of-lt64 c = search (is_row, reading, told, numbers, cases) depth 12

pub returns-then-is_bad_row : goal.returns-then-is_bad_row
unfolding sole_at
returns-then-is_bad_row c = search (is_row, reading, told, numbers, cases) depth 12

pub returns-then-is_stray_record : goal.returns-then-is_stray_record
returns-then-is_stray_record c = search (reading, is_stray)

pub read_own-requires : goal.read_own-requires
read_own-requires c = search (there_fits, rules)

pub returns : goal.returns
unfolding sole_at
returns c = search (is_row, reading, told, numbers, cases) depth 12
