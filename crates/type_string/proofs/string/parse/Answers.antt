use Rattle.type_string.specs.Strings.{type_of, line_with}
use Rattle.type_string.proofs.Answers.{answers}
use Rattle.common.proofs.Choose.{told, cases}
use Rattle.type_string.proofs.string.parse.Goals as goal

pub returns-then-line-eq0 : goal.returns-then-line-eq0
unfolding type_of line_with
returns-then-line-eq0 c = search (answers, cases) depth 12

pub returns-then-line-ne-REVERSED : goal.returns-then-line-ne-REVERSED
unfolding type_of line_with
returns-then-line-ne-REVERSED c = search (told, answers, cases) depth 12

pub returns-then-s-next : goal.returns-then-s-next
unfolding type_of line_with
returns-then-s-next c = search (told, answers, cases) depth 12

pub returns-then-s-next-ne40 : goal.returns-then-s-next-ne40
unfolding type_of line_with
returns-then-s-next-ne40 c = search (told, answers, cases) depth 12

pub returns-then-is_allowed : goal.returns-then-is_allowed
unfolding type_of line_with
returns-then-is_allowed c = search (told, answers, cases) depth 12

pub returns : goal.returns
unfolding type_of line_with
returns c = search (told, answers, cases) depth 12
