use Rattle.type_string.specs.Strings.{plain}
use Rattle.type_string.proofs.Answers.{answers, parsed_again}
use Rattle.common.proofs.Choose.{told, cases}
use Rattle.common.proofs.Said.{tried, failed}
use Rattle.type_string.proofs.string.plain.Goals as goal

pub returns-then-s-at : goal.returns-then-s-at
unfolding plain
returns-then-s-at c = search (told, answers, cases) depth 12

pub returns-then-s-at-ne40 : goal.returns-then-s-at-ne40
unfolding plain
returns-then-s-at-ne40 c = search (told, answers, cases) depth 12

pub returns-then-takes_parameters : goal.returns-then-takes_parameters
unfolding plain
returns-then-takes_parameters c = search (told, tried _ _ _ c.branch-next.ensures c.in_ok-next.is, answers, cases) depth 12

pub returns-in_err-next : goal.returns-in_err-next
unfolding plain
returns-in_err-next c = parsed_again _ _ _ c.from_residual.ensures (search (told, failed _ _ _ c.branch-next.ensures c.in_err-next.is, answers, cases) depth 12)

pub returns : goal.returns
unfolding plain
returns c = search (told, answers, cases) depth 12
