-- What a record may be, kind by kind: its kind, flags, column, turn, and the place of the key or value that it shows (decisions W6, W7, W9,
-- W11). Each test tells that a record is wrong. Assumes nothing.
use Rattle.std.specs.Prelude.{ℕ, ◌-◌, ◌%◌, Bool, true, false, List, ltb, eqb, length}
use Rattle.common.specs.Choose.{pick}
use Rattle.data_field.specs.Fields.{deletion}
use Rattle.data_field.specs.declared.fields.Deletion.{Deletion}
use Rattle.data_turns.specs.Turns.{may_stand}
use Rattle.data_turns.specs.Turns.{bad_kind, is_start, out_of_turn}
use Rattle.data_turns.specs.Turns.{same_deletion}
use Rattle.data_items.specs.declared.Item.{Item}
use Rattle.write_accept.specs.Fields.{has_local}

-- x is not y
unfoldable pub unlike : ℕ → ℕ → Bool
unlike x y = pick (eqb x y) false true

-- ---- the place of a key or value
-- "a value's place outside the lent bytes", or a shown value without bytes
unfoldable pub bad_place : List ℕ → Item → Bool
bad_place bytes i =
    pick (eqb i.length 0) true
    (pick (ltb (length bytes) i.offset) true
    (ltb (length bytes - i.offset) i.length))

-- "or not 0, 0 without a value"
unfoldable pub bad_nowhere : Item → Bool
bad_nowhere i = pick (unlike i.offset 0) true (unlike i.length 0)

-- a key has at most 65,535 bytes
unfoldable pub bad_key : List ℕ → Item → Bool
bad_key bytes i = pick (bad_place bytes i) true (ltb 65535 i.length)

-- a value of a fixed width w (255 is none) has that width
unfoldable pub bad_width : ℕ → ℕ → Bool
bad_width w n = pick (eqb w 255) false (unlike n w)

unfoldable pub bad_value : List ℕ → ℕ → Item → Bool
bad_value bytes w i = pick (bad_place bytes i) true (bad_width w i.length)

-- ---- flags
-- 0, 4, 8, 12
unfoldable pub bad_partition_flags : ℕ → Bool
bad_partition_flags f = pick (ltb 15 f) true (ltb 0 (f % 4))

-- 0, 1, 3, 4, 5, 7
unfoldable pub bad_row_flags : ℕ → Bool
bad_row_flags f = pick (ltb 7 f) true (eqb (f % 4) 2)

-- 0, 8
unfoldable pub bad_value_flags : ℕ → Bool
bad_value_flags f = pick (eqb f 0) false (unlike f 8)

-- 1, 3, 5, 9, 11
unfoldable pub bad_cell_flags : ℕ → Bool
bad_cell_flags f = pick (ltb 11 f) true (pick (eqb f 7) true (eqb (f % 2) 0))

-- ---- the records
-- flag 8 is an empty key
unfoldable pub bad_partition : List ℕ → Item → Bool
bad_partition bytes i =
    pick (unlike i.kind 1) true
    (pick (bad_partition_flags i.flags) true
    (pick (ltb 7 i.flags) (bad_nowhere i) (bad_key bytes i)))

-- a row, or (kind 2) a static one
unfoldable pub bad_row : ℕ → Item → Bool
bad_row kind i = pick (unlike i.kind kind) true (bad_row_flags i.flags)

-- first is 1 right behind the partition's record
unfoldable pub bad_static : ℕ → ℕ → Item → Bool
bad_static first statics i = pick (may_stand first statics) (bad_row 2 i) true

-- "an end or boundary an open range with that same deletion"
unfoldable pub bad_first : Deletion → Item → Bool
bad_first opened i = pick (is_start i.column) false (pick (same_deletion opened (deletion 1 i.mark i.local)) false true)

unfoldable pub bad_marker : Deletion → Item → Bool
bad_marker opened i =
    pick (unlike i.kind 4) true
    (pick (unlike i.flags 4) true
    (pick (bad_kind i.column) true
    (pick (out_of_turn i.column opened.deleted) true
    (bad_first opened i))))

-- the clustering value of a column of width w: flag 8 is an empty one
unfoldable pub bad_clustering : List ℕ → ℕ → ℕ → Item → Bool
bad_clustering bytes column w i =
    pick (unlike i.kind 5) true
    (pick (bad_value_flags i.flags) true
    (pick (unlike i.column column) true
    (pick (eqb i.flags 8) (bad_nowhere i) (bad_value bytes w i))))

-- the place that a cell shows: a tombstone (5) and an empty value (9, 11) have none
unfoldable pub bad_cell_place : List ℕ → ℕ → Item → Bool
bad_cell_place bytes w i =
    pick (has_local i) (bad_nowhere i)
    (pick (ltb 8 i.flags) (bad_nowhere i)
    (bad_value bytes w i))

unfoldable pub bad_cell : List ℕ → ℕ → ℕ → Item → Bool
bad_cell bytes column w i =
    pick (unlike i.kind 6) true
    (pick (bad_cell_flags i.flags) true
    (pick (unlike i.column column) true
    (bad_cell_place bytes w i)))

-- "the partition ends closed"
unfoldable pub bad_end : Deletion → Item → Bool
bad_end opened i =
    pick (unlike i.kind 7) true
    (pick (unlike i.flags 0) true
    (unlike opened.deleted 0))
