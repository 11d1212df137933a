-- What a step answers, and which phase it goes by, for `search`. Assumes nothing.
use Rattle.std.proofs.Common.{Result, Ok, Err, Some, None}
use Rattle.std.specs.Prelude.{Option as Optional}
use Rattle.std.specs.Result.{IsErr, IsErrAnd}
use Rattle.common.specs.declared.reading.Bad.{Bad}
use mathlib.Core.Path.{◌≡◌, refl, sym, ap, ◌∙◌}
use Prim.Native.Nat.{ℕ}
use Rattle.common.specs.Got.{Got, bad}
use Rattle.common.specs.Refusals.{taken, refused, bad_at, refusal_at}
use Rattle.common.specs.declared.refusal.Fault.{Fault}
use Rattle.common.specs.declared.refusal.Refusal.{Refusal}
use Rattle.common.specs.declared.refusal.Slice.{Slice}
use Rattle.common.specs.declared.refusal.Slice.TheVariants.{Data}
use Rattle.common.specs.declared.times.Bases.{Bases}
use mathlib.Core.Bool.{Bool, true, false}
use native.Mathlib.Omega.{arith}
use Rattle.common.specs.Choose.{pick, bind}
use Rattle.common.proofs.Choose.{told}
use mathlib.Core.List.{List}
use mathlib.Core.Option.{none, some}
use Rattle.schema_check.specs.declared.records.Counts.{Counts}
use Rattle.data_walk.specs.Steps.{Handed, Answer, hands, handed, partition_answer, item_answer, values_answer, prefix_answer, statics_answer, is_static, is_of_cells, columns_at, columns_of, lacking, columns_answer, step_in, said_moved, said_step}
use Rattle.data_items.specs.declared.Item.{Item}
use Rattle.data_walk.specs.declared.cursors.Cursor.{Cursor}
use Rattle.data_walk.specs.declared.cursors.Phase.{Phase}
use Rattle.data_walk.specs.declared.cursors.Phase.TheVariants.{Partition, First, Items, Values, Prefix, Statics, Cells}

-- ---- an item and its cursor
pub moved_is : (i : Item) (y : Cursor) (q : Got Handed) → hands i y ≡ q → said_moved (Ok (i, y)) ≡ q
unfolding said_moved
moved_is i y q e = e

pub moved_err : (y : Bad) (f : Fault) (p : ℕ) (q : Got Handed) → y ≡ bad_at f p → bad f p ≡ q → said_moved (Err y) ≡ q
unfolding said_moved
moved_err y f p q d e = rw d e

pub moved_again : (w : Result (Item × Cursor) Bad) (y : Bad) (q : Got Handed) → IsErr w × IsErrAnd w (λ z. z ≡ y) → bad y.fault y.place ≡ q → said_moved w ≡ q
unfolding said_moved
moved_again (Ok x) y q d e = absurd d.1
moved_again (Err x) y q d e = rw d.1 e

-- ---- a step
pub step_is : (i : Item) (y : Cursor) (q : Answer) → taken (some (i, y)) ≡ q → said_step (Ok (Some (i, y))) ≡ q
unfolding said_step
step_is i y q e = e

pub step_done : (q : Answer) → taken none ≡ q → said_step (Ok None) ≡ q
unfolding said_step
step_done q e = e

pub step_err : (r : Refusal) (f : Fault) (z : Slice) (p : ℕ) (q : Answer) → r ≡ refusal_at f z p → refused f z p ≡ q → said_step (Err r) ≡ q
unfolding said_step
step_err r f z p q d e = rw d e

pub step_again : (w : Result (Optional (Item × Cursor)) Refusal) (y : Refusal) (q : Answer) → IsErr w × IsErrAnd w (λ z. z ≡ y) → refused y.fault y.slice y.place ≡ q → said_step w ≡ q
unfolding said_step
step_again (Ok x) y q d e = absurd d.1
step_again (Err x) y q d e = rw d.1 e

-- ---- what is read, handed out
module _ (q : Answer) (m : Result (Item × Cursor) Bad) where
  pub handed_next : (i : Item) (y : Cursor) → m ≡ Ok (i, y) → q ≡ taken (some (i, y)) → q ≡ handed (said_moved m)
  unfolding handed said_moved
  handed_next i y e g = rw e g

  pub handed_bad : (y : Bad) → m ≡ Err y → q ≡ refused y.fault Data y.place → q ≡ handed (said_moved m)
  unfolding handed said_moved
  handed_bad y e g = rw e g

  pub handed_as : (x : Got Handed) → said_moved m ≡ x → q ≡ handed (said_moved m) → q ≡ handed x
  handed_as x e g = rw (← e) g

-- ---- a step goes by its phase
never : {A : Type 0} → ◌≡◌ {A = Bool} false true → A
never e = let z : ◌≡◌ {A = ℕ} 0 1 = ap number e in absurd (omega arith)
  where
    number : Bool → ℕ
    number false = 0
    number true = 1

columns_step : (p : Phase) (c : List ℕ) (k : Counts) (b : Bases) (s : List ℕ) (x : Cursor) → is_of_cells p ≡ true → columns_answer (is_static p) c k b s x ≡ step_in p c k b s x
unfolding step_in statics_answer columns_answer lacking columns_at columns_of is_static is_of_cells pick bind
columns_step Partition c k b s x e = never e
columns_step First c k b s x e = never e
columns_step Items c k b s x e = never e
columns_step Values c k b s x e = never e
columns_step Prefix c k b s x e = never e
columns_step Statics c k b s x e = refl
columns_step Cells c k b s x e = refl

module _ (q : Answer) (p : Phase) (c : List ℕ) (k : Counts) (b : Bases) (s : List ℕ) (x : Cursor) where
  pub in_partition : p ≡ Partition → q ≡ partition_answer s x → q ≡ step_in p c k b s x
  unfolding step_in
  in_partition e f = rw e f

  pub in_first : p ≡ First → q ≡ item_answer c k b s 1 x → q ≡ step_in p c k b s x
  unfolding step_in
  in_first e f = rw e f

  pub in_items : p ≡ Items → q ≡ item_answer c k b s 0 x → q ≡ step_in p c k b s x
  unfolding step_in
  in_items e f = rw e f

  pub in_values : p ≡ Values → q ≡ values_answer c k s x → q ≡ step_in p c k b s x
  unfolding step_in
  in_values e f = rw e f

  pub in_prefix : p ≡ Prefix → q ≡ prefix_answer c k s x → q ≡ step_in p c k b s x
  unfolding step_in
  in_prefix e f = rw e f

  -- the cells of both kinds of rows at once
  pub in_columns : (t r : Bool) → t ≡ is_static p → r ≡ is_of_cells p → r ≡ true → q ≡ columns_answer t c k b s x → q ≡ step_in p c k b s x
  in_columns t r e f g h = h ∙ ap (λ (u : Bool). columns_answer u c k b s x) e ∙ columns_step p c k b s x (sym f ∙ g)

  pub not_statics : (r : Bool) → r ≡ is_of_cells p → r ≡ false → p ≡ Statics → q ≡ step_in p c k b s x
  unfolding is_of_cells
  not_statics r e f g = never (sym f ∙ e ∙ ap is_of_cells g)

  pub not_cells : (r : Bool) → r ≡ is_of_cells p → r ≡ false → p ≡ Cells → q ≡ step_in p c k b s x
  unfolding is_of_cells
  not_cells r e f g = never (sym f ∙ e ∙ ap is_of_cells g)

-- what a phase is
pub static_as : (p v : Phase) (t : Bool) → p ≡ v → t ≡ is_static v → t ≡ is_static p
static_as p v t e f = rw e f

pub of_cells_as : (p v : Phase) (t : Bool) → p ≡ v → t ≡ is_of_cells v → t ≡ is_of_cells p
of_cells_as p v t e f = rw e f

pub ruleset phases = (in_partition, in_first, in_items, in_values, in_prefix, in_columns, not_statics, not_cells)

pub ruleset moves = (told, moved_is, moved_err, step_is, step_done, step_err, handed_next, handed_bad)
