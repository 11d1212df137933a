use Rattle.type_name.specs.Names.{blank}
use Rattle.common.proofs.Choose.{told, cases}
use Rattle.type_name.proofs.characters.is_blank.Goals as goal

pub returns : goal.returns
unfolding blank
returns c = search (told, cases) depth 12
