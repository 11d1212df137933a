-- One column of a schema, and when two schemas are equal. Assumes nothing.
use Rattle.std.specs.Prelude.{ℕ, zero, suc, ◌+◌, ◌*◌, ◌/◌, Bool, true, false, List, leb, eqb, length, Option, Some, None}
use Rattle.common.specs.Choose.{pick}
use Rattle.common.specs.Store.{shown}
use Rattle.type_table.specs.Table.{line_of}
use Rattle.text.specs.Text.{same}
use Rattle.schema_check.specs.Records.{role_at, line_at, mark_at, width_at, name_at, name_len_at}
use Rattle.schema_column.specs.declared.Column.{Column}

-- the column whose record stands at place at
unfoldable pub column_at : List ℕ → ℕ → Column
column_at s at = record {
  role = role_at s at;
  line = line_at s at;
  reversed = mark_at s at;
  width = width_at s at;
  name = name_at s at;
  len = name_len_at s at;
}

-- the column of record i, from 0, where there is such a record
unfoldable pub column_of : List ℕ → ℕ → Option Column
column_of s i = pick (leb (length s / 16) i) None (Some (column_at s (16 * i)))

-- the bytes of a name in the Statistics t; none where its place is outside
unfoldable pub name_of : List ℕ → List ℕ → ℕ → List ℕ
name_of t s at = shown t (name_at s at) (name_len_at s at)

-- "Schemas are equal when roles, type lines, reversed marks and names are": two records at place at, t and u the Statistics beside them
unfoldable pub same_column : List ℕ → List ℕ → List ℕ → List ℕ → ℕ → Bool
same_column s t v u at =
    pick (eqb (role_at s at) (role_at v at))
    (pick (eqb (line_at s at) (line_at v at))
    (pick (eqb (mark_at s at) (mark_at v at))
    (same (name_of t s at) (name_of u v at))
    false) false)
    false

-- the first k records from at on
unfoldable pub same_from : ℕ → List ℕ → List ℕ → List ℕ → List ℕ → ℕ → Bool
same_from zero s t v u at = true
same_from (suc k) s t v u at = pick (same_column s t v u at) (same_from k s t v u (at + 16)) false

-- two whole schemas
unfoldable pub same_schemas : List ℕ → List ℕ → List ℕ → List ℕ → Bool
same_schemas s t v u = pick (eqb (length s) (length v)) (same_from (length s / 16) s t v u 0) false

-- "7 for an unordered type": the first clustering record from at on, of k, whose type has no order
unfoldable pub unordered_from : ℕ → List ℕ → ℕ → Option ℕ
unordered_from zero s at = None
unordered_from (suc k) s at =
    pick (eqb (role_at s at) 1)
    (pick (line_of (line_at s at)).ordered (unordered_from k s (at + 16)) (Some at))
    (unordered_from k s (at + 16))

unfoldable pub unordered_of : List ℕ → Option ℕ
unordered_of s = unordered_from (length s / 16) s 0
