use Rattle.type_name.specs.Names.{alphanumeric}
use Rattle.common.proofs.Choose.{cases}
use Rattle.type_name.proofs.characters.is_alphanumeric.Goals as goal

pub returns-then-c-lt48 : goal.returns-then-c-lt48
unfolding alphanumeric
returns-then-c-lt48 c = search cases depth 12

pub returns-then-c-lt58 : goal.returns-then-c-lt58
unfolding alphanumeric
returns-then-c-lt58 c = search cases depth 12

pub returns-then-c-lt65 : goal.returns-then-c-lt65
unfolding alphanumeric
returns-then-c-lt65 c = search cases depth 12

pub returns-then-c-lt91 : goal.returns-then-c-lt91
unfolding alphanumeric
returns-then-c-lt91 c = search cases depth 12

pub returns-then-c-lt97 : goal.returns-then-c-lt97
unfolding alphanumeric
returns-then-c-lt97 c = search cases depth 12

pub returns : goal.returns
unfolding alphanumeric
returns c = search cases depth 12
