use Rattle.common.proofs.Choose.{cases}
use Rattle.common.proofs.Said.{trying, said_again}
use Rattle.write_record.proofs.Plain.{is_ranges}
use Rattle.write_record.proofs.ranges.read_ranges.Goals as goal

pub returns-in_err-item : goal.returns-in_err-item
returns-in_err-item c = said_again _ _ _ c.from_residual.ensures (search (is_ranges, trying, cases) depth 12)

pub returns : goal.returns
returns c = search (is_ranges, trying, cases) depth 12
