use Rattle.common.proofs.Choose.{cases, told}
use Rattle.common.proofs.Said.{trying, said_again}
use Rattle.write_record.proofs.Plain.{is_record, plain_fits}
use borrow.Author.Rules.{rules}
use Rattle.write_record.proofs.records.read_record.Goals as goal

pub returns-then-is_wrong : goal.returns-then-is_wrong
returns-then-is_wrong c = search (is_record, trying, told, cases) depth 12

pub read_ranges-requires : goal.read_ranges-requires
read_ranges-requires c = search (plain_fits, rules)

pub returns-in_err-item : goal.returns-in_err-item
returns-in_err-item c = said_again _ _ _ c.from_residual.ensures (search (is_record, trying, cases) depth 12)

pub returns : goal.returns
returns c = search (is_record, trying, told, cases) depth 12
