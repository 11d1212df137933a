use mathlib.Core.Path.{ap}
use mathlib.Core.List.{[], ◌∷◌}
use native.Mathlib.Omega.{arith}
use lib.Dec.{eqb, eqb→eq}
use Rattle.common.specs.Choose.{pick}
use Rattle.type_table.specs.Table.{Line, table, line_of, nth, no_line}
use Rattle.type_table.proofs.Rows.{none_at, at_key, between}
use Rattle.type_table.proofs.width.Goals as goal

pub returns-then-line-gt34 : goal.returns-then-line-gt34
unfolding no_line
returns-then-line-gt34 c = ap (λ (x : Line). x.width) (none_at _ (omega arith))

pub returns-in-0 : goal.returns-in-0
unfolding pick table line_of nth no_line
returns-in-0 c = eqb→eq _ _ (at_key (λ l. eqb 0 (line_of l).width) (0 ∷ []) tt _ c.in-0.is)

pub returns-in-2 : goal.returns-in-2
unfolding pick table line_of nth
returns-in-2 c = eqb→eq _ _ (at_key (λ l. eqb 1 (line_of l).width) (2 ∷ []) tt _ c.in-2.is)

pub returns-in-14 : goal.returns-in-14
unfolding pick table line_of nth
returns-in-14 c = eqb→eq _ _ (at_key (λ l. eqb 4 (line_of l).width) (14 ∷ 17 ∷ []) tt _ c.in-14.is)

pub returns-in-8 : goal.returns-in-8
unfolding pick table line_of nth
returns-in-8 c = eqb→eq _ _ (at_key (λ l. eqb 8 (line_of l).width) (8 ∷ 10 ∷ 21 ∷ 28 ∷ []) tt _ c.in-8.is)

pub returns-in-19 : goal.returns-in-19
unfolding pick table line_of nth
returns-in-19 c = eqb→eq _ _ (at_key (λ l. eqb 16 (line_of l).width) (19 ∷ 30 ∷ 34 ∷ []) tt _ c.in-19.is)

pub returns-in_default : goal.returns-in_default
unfolding table line_of nth
returns-in_default c = eqb→eq _ _ (between (λ l. eqb 255 (line_of l).width) 0 35 ((19 ∷ 30 ∷ 34 ∷ []) ∷ (8 ∷ 10 ∷ 21 ∷ 28 ∷ []) ∷ (14 ∷ 17 ∷ []) ∷ (2 ∷ []) ∷ (0 ∷ []) ∷ []) tt _ (omega arith) (omega arith) c.in_default.in_default-own.rest)
