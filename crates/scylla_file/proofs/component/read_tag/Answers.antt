use Rattle.common.proofs.Choose.{cases, told}
use Rattle.common.proofs.Said.{trying, said_again}
use Rattle.scylla_file.specs.Components.{tag_at}
use Rattle.scylla_file.proofs.component.read_tag.Goals as goal

pub returns-in_err-tag : goal.returns-in_err-tag
unfolding tag_at
returns-in_err-tag c = said_again _ _ _ c.from_residual.ensures (search (trying, cases) depth 12)

pub returns-then-is_seen : goal.returns-then-is_seen
unfolding tag_at
returns-then-is_seen c = search (trying, told, cases) depth 12

pub returns : goal.returns
unfolding tag_at
returns c = search (trying, told, cases) depth 12
