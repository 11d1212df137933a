use Rattle.type_string.specs.Strings.{held, line_with}
use Rattle.type_string.proofs.Answers.{answers}
use Rattle.common.proofs.Choose.{told, cases}
use Rattle.type_string.proofs.string.held.Goals as goal

pub returns-then-line-eq0 : goal.returns-then-line-eq0
unfolding held line_with
returns-then-line-eq0 c = search (answers, cases) depth 12

pub returns-then-line-eq-REVERSED : goal.returns-then-line-eq-REVERSED
unfolding held line_with
returns-then-line-eq-REVERSED c = search (told, answers, cases) depth 12

pub returns-then-is_allowed : goal.returns-then-is_allowed
unfolding held line_with
returns-then-is_allowed c = search (told, answers, cases) depth 12

pub returns : goal.returns
unfolding held line_with
returns c = search (told, answers, cases) depth 12
