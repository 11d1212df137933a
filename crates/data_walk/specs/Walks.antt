-- A walk over Data, step by step to its end: the items that it hands out, or the refusal that ends it. Assumes nothing.
use Rattle.std.specs.Prelude.{ℕ, zero, suc, ◌+◌, ◌-◌, ◌*◌, List, [], ◌∷◌, length}
use Rattle.std.proofs.Math.Option.{none, some}
use Rattle.common.specs.Refusals.{Outcome, taken, refused}
use Rattle.common.specs.declared.times.Bases.{Bases}
use Rattle.data_field.specs.Fields.{live}
use Rattle.schema_check.specs.declared.records.Counts.{Counts}
use Rattle.data_walk.specs.Cursors.{at_items}
use Rattle.data_walk.specs.Steps.{Answer, step_in}
use Rattle.data_items.specs.declared.Item.{Item}
use Rattle.data_walk.specs.declared.cursors.Phase.{Phase}
use Rattle.data_walk.specs.declared.cursors.Phase.TheVariants.{Partition, First, Items, Values, Prefix, Statics, Cells}
use Rattle.data_walk.specs.declared.cursors.Cursor.{Cursor}

-- the cursor at the start of Data
unfoldable pub start : Cursor
start = at_items 0 Partition live

-- how far a cursor has come: to the end of the body in hand, else to its position
abbrev pub reach_in : Phase → Cursor → ℕ
reach_in Partition x = x.position
reach_in First x = x.position
reach_in Items x = x.position
reach_in Values x = x.hand.stop
reach_in Prefix x = x.hand.stop
reach_in Statics x = x.hand.stop
reach_in Cells x = x.hand.stop

-- what is left of the item in hand: values, of which there are at most 32, and then the columns, at most 63
abbrev pub left_in : Phase → ℕ → ℕ
left_in Partition column = 0
left_in First column = 0
left_in Items column = 0
left_in Values column = 65 + (32 - column)
left_in Prefix column = 1 + (32 - column)
left_in Statics column = 64 - column
left_in Cells column = 64 - column

-- a number that every step makes smaller, in Data of len bytes: so a walk ends
unfoldable pub remaining : ℕ → Cursor → ℕ
remaining len x = 128 * (len - reach_in x.phase x) + left_in x.phase x.hand.column

-- an item before others
unfoldable pub add : Item → Outcome (List Item) → Outcome (List Item)
add i (taken l) = taken (i ∷ l)
add i (refused f z p) = refused f z p

-- what follows a step's answer
unfoldable pub follow : Answer → (Cursor → Outcome (List Item)) → Outcome (List Item)
follow (taken none) g = taken []
follow (taken (some h)) g = add h.0 (g h.1)
follow (refused f z p) g = refused f z p

-- the walk from x on, of at most n steps
unfoldable pub walk_in : ℕ → List ℕ → Counts → Bases → List ℕ → Cursor → Outcome (List Item)
walk_in zero c k b s x = taken []
walk_in (suc n) c k b s x = follow (step_in x.phase c k b s x) (walk_in n c k b s)

-- the walk from x on, to its end
unfoldable pub walk_from : List ℕ → Counts → Bases → List ℕ → Cursor → Outcome (List Item)
walk_from c k b s x = walk_in (suc (remaining (length s) x)) c k b s x
