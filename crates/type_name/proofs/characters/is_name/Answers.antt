use Rattle.type_name.specs.Names.{of_name}
use Rattle.common.proofs.Choose.{told, cases}
use Rattle.type_name.proofs.characters.is_name.Goals as goal

pub returns-then-is_alphanumeric : goal.returns-then-is_alphanumeric
unfolding of_name
returns-then-is_alphanumeric c = search (told, cases) depth 12

pub returns : goal.returns
unfolding of_name
returns c = search (told, cases) depth 12
