use mathlib.Core.Path.{ap}
use mathlib.Core.List.{[], ◌∷◌}
use mathlib.Core.Bool.{not}
use native.Mathlib.Omega.{arith}
use Rattle.common.specs.Choose.{pick}
use Rattle.type_table.specs.Table.{Line, table, line_of, nth, no_line}
use Rattle.type_table.proofs.Rows.{none_at, at_key, between, it_is, it_is_not}
use Rattle.type_table.proofs.is_of_columns.Goals as goal

pub returns-then-line-gt34 : goal.returns-then-line-gt34
unfolding no_line
returns-then-line-gt34 c = ap (λ (x : Line). x.column) (none_at _ (omega arith))

pub returns-in-0 : goal.returns-in-0
unfolding pick table line_of nth no_line
returns-in-0 c = it_is_not _ (at_key (λ l. not (line_of l).column) (0 ∷ []) tt _ c.in-0.is)

pub returns-in-7 : goal.returns-in-7
unfolding pick table line_of nth
returns-in-7 c = it_is_not _ (at_key (λ l. not (line_of l).column) (7 ∷ 20 ∷ 22 ∷ 25 ∷ 32 ∷ []) tt _ c.in-7.is)

pub returns-in_default : goal.returns-in_default
unfolding table line_of nth
returns-in_default c = it_is _ (between (λ l. (line_of l).column) 0 35 ((7 ∷ 20 ∷ 22 ∷ 25 ∷ 32 ∷ []) ∷ (0 ∷ []) ∷ []) tt _ (omega arith) (omega arith) c.in_default.in_default-own.rest)
