-- What may stand where: the kinds of markers, when one is in turn, the deletion of an open range, static rows. Assumes nothing.
use Rattle.std.specs.Prelude.{ℕ, Bool, true, false, ltb, eqb}
use Rattle.common.specs.Choose.{pick}
use Rattle.data_field.specs.declared.fields.Deletion.{Deletion}

-- a number that is no kind of a marker
unfoldable pub bad_kind : ℕ → Bool
bad_kind kind = pick (ltb 7 kind) true (pick (eqb kind 3) true (eqb kind 4))

-- a start
unfoldable pub is_start : ℕ → Bool
is_start kind = pick (eqb kind 1) true (eqb kind 7)

-- an end with a start
unfoldable pub is_boundary : ℕ → Bool
is_boundary kind = pick (eqb kind 2) true (eqb kind 5)

-- "A start needs nothing open, an end or boundary an open range": whether a kind is out of turn; opened is 0 where no range is open
unfoldable pub out_of_turn : ℕ → ℕ → Bool
out_of_turn kind opened = pick (is_start kind) (ltb 0 opened) (eqb opened 0)

-- the same mark and local time
unfoldable pub same_deletion : Deletion → Deletion → Bool
same_deletion d e = pick (eqb d.mark e.mark) (eqb d.local e.local) false

-- "A static row stands first and only where static columns exist": first is 1 right behind the partition's header, else 0
unfoldable pub may_stand : ℕ → ℕ → Bool
may_stand first statics = pick (ltb 0 first) (ltb 0 statics) false
