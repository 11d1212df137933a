use mathlib.Core.Path.{ap}
use mathlib.Core.List.{[], ◌∷◌}
use mathlib.Core.Bool.{not}
use native.Mathlib.Omega.{arith}
use Rattle.common.specs.Choose.{pick}
use Rattle.type_table.specs.Table.{Line, table, line_of, nth, no_line}
use Rattle.type_table.proofs.Rows.{none_at, at_key, between, it_is, it_is_not}
use Rattle.type_table.proofs.takes_parameters.Goals as goal

pub returns-then-line-gt34 : goal.returns-then-line-gt34
unfolding no_line
returns-then-line-gt34 c = ap (λ (x : Line). x.parameters) (none_at _ (omega arith))

pub returns-in_default : goal.returns-in_default
unfolding table line_of nth no_line
returns-in_default c = it_is_not _ (between (λ l. not (line_of l).parameters) 0 5 ((12 ∷ 15 ∷ 20 ∷ []) ∷ []) tt _ (omega arith) (omega arith) c.in_default.in_default-own.rest)

pub returns-in_default-2 : goal.returns-in_default-2
unfolding table line_of nth
returns-in_default-2 c = it_is_not _ (between (λ l. not (line_of l).parameters) 7 22 ((12 ∷ 15 ∷ 20 ∷ []) ∷ []) tt _ (omega arith) (omega arith) c.in_default.in_default-own.rest)

pub returns-in_default-3 : goal.returns-in_default-3
unfolding table line_of nth
returns-in_default-3 c = it_is_not _ (between (λ l. not (line_of l).parameters) 26 31 ((12 ∷ 15 ∷ 20 ∷ []) ∷ []) tt _ (omega arith) (omega arith) c.in_default.in_default-own.rest)

pub returns-in_default-4 : goal.returns-in_default-4
unfolding table line_of nth
returns-in_default-4 c = it_is_not _ (between (λ l. not (line_of l).parameters) 33 35 ((12 ∷ 15 ∷ 20 ∷ []) ∷ []) tt _ (omega arith) (omega arith) c.in_default.in_default-own.rest)

pub returns-in-5 : goal.returns-in-5
unfolding pick table line_of nth
returns-in-5 c = it_is _ (at_key (λ l. (line_of l).parameters) (12 ∷ 15 ∷ 20 ∷ []) tt _ c.in-5.is)

pub returns-in-5-2 : goal.returns-in-5-2
unfolding table line_of nth
returns-in-5-2 c = it_is _ (between (λ l. (line_of l).parameters) 5 7 ((12 ∷ 15 ∷ 20 ∷ []) ∷ []) tt _ (omega arith) (omega arith) c.in-5.in_default-own.rest)

pub returns-in-5-3 : goal.returns-in-5-3
unfolding table line_of nth
returns-in-5-3 c = it_is _ (between (λ l. (line_of l).parameters) 22 26 ((12 ∷ 15 ∷ 20 ∷ []) ∷ []) tt _ (omega arith) (omega arith) c.in-5.in_default-own.rest)

pub returns-in-5-4 : goal.returns-in-5-4
unfolding table line_of nth
returns-in-5-4 c = it_is _ (between (λ l. (line_of l).parameters) 31 33 ((12 ∷ 15 ∷ 20 ∷ []) ∷ []) tt _ (omega arith) (omega arith) c.in-5.in_default-own.rest)
