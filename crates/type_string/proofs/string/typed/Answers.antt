use Rattle.type_string.specs.Strings.{typed}
use Rattle.type_string.proofs.Answers.{answers}
use Rattle.common.proofs.Choose.{told, cases}
use Rattle.type_string.proofs.string.typed.Goals as goal

pub returns-then-is_tail : goal.returns-then-is_tail
unfolding typed
returns-then-is_tail c = search (told, answers, cases) depth 12

pub returns : goal.returns
unfolding typed
returns c = search (told, answers, cases) depth 12
