use Rattle.common.proofs.Choose.{cases, told}
use Rattle.data_turns.specs.Turns.{out_of_turn}
use Rattle.data_turns.proofs.out_of_turn.Goals as goal

pub returns-then-is_start : goal.returns-then-is_start
unfolding out_of_turn
returns-then-is_start c = search (told, cases) depth 12

pub returns : goal.returns
unfolding out_of_turn
returns c = search (told, cases) depth 12
