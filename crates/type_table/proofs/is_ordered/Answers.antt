use mathlib.Core.Path.{ap}
use mathlib.Core.List.{[], ◌∷◌}
use mathlib.Core.Bool.{not}
use native.Mathlib.Omega.{arith}
use Rattle.common.specs.Choose.{pick}
use Rattle.type_table.specs.Table.{Line, table, line_of, nth, no_line}
use Rattle.type_table.proofs.Rows.{none_at, at_key, between, it_is, it_is_not}
use Rattle.type_table.proofs.is_ordered.Goals as goal

pub returns-then-line-gt34 : goal.returns-then-line-gt34
unfolding no_line
returns-then-line-gt34 c = ap (λ (x : Line). x.ordered) (none_at _ (omega arith))

pub returns-in_default : goal.returns-in_default
unfolding table line_of nth no_line
returns-in_default c = it_is_not _ (between (λ l. not (line_of l).ordered) 0 1 ((17 ∷ 21 ∷ 28 ∷ 33 ∷ []) ∷ []) tt _ (omega arith) (omega arith) c.in_default.in_default-own.rest)

pub returns-in_default-2 : goal.returns-in_default-2
unfolding table line_of nth
returns-in_default-2 c = it_is_not _ (between (λ l. not (line_of l).ordered) 4 35 ((17 ∷ 21 ∷ 28 ∷ 33 ∷ []) ∷ []) tt _ (omega arith) (omega arith) c.in_default.in_default-own.rest)

pub returns-in-1 : goal.returns-in-1
unfolding pick table line_of nth
returns-in-1 c = it_is _ (at_key (λ l. (line_of l).ordered) (17 ∷ 21 ∷ 28 ∷ 33 ∷ []) tt _ c.in-1.is)

pub returns-in-1-2 : goal.returns-in-1-2
unfolding table line_of nth
returns-in-1-2 c = it_is _ (between (λ l. (line_of l).ordered) 1 4 ((17 ∷ 21 ∷ 28 ∷ 33 ∷ []) ∷ []) tt _ (omega arith) (omega arith) c.in-1.in_default-own.rest)
