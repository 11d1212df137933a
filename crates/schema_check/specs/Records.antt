-- "The schema is 16-byte records without a header, in the order key, clustering, static, regular: role 0 to 3; type's line in 001's table
-- from 1 (under Reversed, its parameter's); reversed 0 or 1; width or 255; name offset and length in Statistics, 32-bit each (0 but
-- for static and regular); four zero bytes. 10 where roles, counts, lines, marks, widths or zeros are none that Statistics gives; a
-- name's place is tested, likewise 10, only where names are read." Assumes nothing.
use Rattle.std.specs.Prelude.{ℕ, zero, suc, ◌+◌, ◌-◌, ◌/◌, Bool, true, false, List, ltb, leb, eqb, length, get_or}
use Rattle.common.specs.Choose.{pick, bind}
use Rattle.common.specs.Got.{Got, got, bad, Reader, ◌>>=◌, ret, within}
use Rattle.common.specs.Refusals.{Outcome, refused}
use Rattle.number_fixed.specs.BigEndian.{big_endian}
use Rattle.common.specs.declared.refusal.Fault.TheVariants.{OverLimit, BadRecord}
use Rattle.common.specs.declared.refusal.Slice.TheVariants.{Schema}
use Rattle.type_table.specs.Table.{line_of, is_line, reversed_line}
use Rattle.schema_check.specs.declared.records.Counts.{Counts}

-- ---- the fields of the record at place at
unfoldable pub role_at : List ℕ → ℕ → ℕ
role_at s at = get_or s at 0

unfoldable pub line_at : List ℕ → ℕ → ℕ
line_at s at = get_or s (at + 1) 0

unfoldable pub mark_at : List ℕ → ℕ → ℕ
mark_at s at = get_or s (at + 2) 0

unfoldable pub width_at : List ℕ → ℕ → ℕ
width_at s at = get_or s (at + 3) 0

unfoldable pub name_at : List ℕ → ℕ → ℕ
name_at s at = big_endian 0 s (at + 4) 4

unfoldable pub name_len_at : List ℕ → ℕ → ℕ
name_len_at s at = big_endian 0 s (at + 8) 4

unfoldable pub zeros_at : List ℕ → ℕ → ℕ
zeros_at s at = big_endian 0 s (at + 12) 4

-- ---- whether Statistics gives a record
-- a line that a record of the role may have: every line but Reversed's own; for static and regular one that a column may have
unfoldable pub is_line_of : ℕ → ℕ → Bool
is_line_of role line =
    pick (eqb line reversed_line) false
    (pick (ltb role 2) (is_line line) (line_of line).column)

-- whether the name's place is one that the role may have: 0, 0 for key and clustering; for the others it lies before limit
unfoldable pub is_name_of : ℕ → ℕ → ℕ → ℕ → Bool
is_name_of limit role name len =
    pick (ltb role 2) (pick (eqb name 0) (eqb len 0) false)
    (leb (name + len) limit)

-- whether role, line, mark and width go together
unfoldable pub is_kind_of : ℕ → ℕ → ℕ → ℕ → Bool
is_kind_of role line mark width =
    pick (ltb 3 role) false
    (pick (is_line_of role line)
    (pick (ltb 1 mark) false (bind (line_of line).width (λ w. eqb width w)))
    false)

-- what one record shows by itself
unfoldable pub given : ℕ → List ℕ → ℕ → Bool
given limit s at =
    pick (is_kind_of (role_at s at) (line_at s at) (mark_at s at) (width_at s at))
    (pick (is_name_of limit (role_at s at) (name_at s at) (name_len_at s at))
    (eqb (zeros_at s at) 0)
    false)
    false

-- ---- whether a record is in turn: "first one key, then roles that never fall", at most 32, 63 and 63 of each
abbrev pub none : Counts
none = record { keys = 0; clustering = 0; statics = 0; regulars = 0 }

-- the count of a role, and the most that there may be
unfoldable pub count_of : ℕ → Counts → ℕ
count_of role c = pick (eqb role 0) c.keys (pick (eqb role 1) c.clustering (pick (eqb role 2) c.statics c.regulars))

unfoldable pub most_of : ℕ → ℕ
most_of role = pick (eqb role 0) 1 (pick (eqb role 1) 32 63)

-- whether a column of a later role is there
unfoldable pub is_passed : ℕ → Counts → Bool
is_passed role c =
    pick (eqb role 1) (pick (ltb 0 c.statics) true (ltb 0 c.regulars))
    (pick (eqb role 2) (ltb 0 c.regulars) false)

-- whether the key stands first
unfoldable pub is_first : ℕ → Counts → Bool
is_first role c = pick (eqb role 0) true (ltb 0 c.keys)

unfoldable pub in_turn : ℕ → Counts → Bool
in_turn role c =
    pick (is_first role c)
    (pick (is_passed role c) false (bind (count_of role c) (λ n. bind (most_of role) (λ most. ltb n most))))
    false

-- one more of the role
unfoldable pub with_one : ℕ → Counts → Counts
with_one role c =
    pick (eqb role 0) (record { keys = c.keys + 1; clustering = c.clustering; statics = c.statics; regulars = c.regulars })
    (pick (eqb role 1) (record { keys = c.keys; clustering = c.clustering + 1; statics = c.statics; regulars = c.regulars })
    (pick (eqb role 2) (record { keys = c.keys; clustering = c.clustering; statics = c.statics + 1; regulars = c.regulars })
    (record { keys = c.keys; clustering = c.clustering; statics = c.statics; regulars = c.regulars + 1 })))

-- ---- the records
-- one record behind those counted in c: 10 at its first byte, whichever byte is at fault, and for a part of a record
unfoldable pub record_at : ℕ → Counts → Reader Counts
record_at limit c s at end =
    pick (ltb (end - at) 16) (bad BadRecord at)
    (pick (given limit s at)
    (pick (in_turn (role_at s at) c) (got (with_one (role_at s at) c) (at + 16)) (bad BadRecord at))
    (bad BadRecord at))

-- k records from at on, behind those counted in c
unfoldable pub records_at : ℕ → ℕ → Counts → Reader Counts
records_at limit zero c = ret c
records_at limit (suc k) c = record_at limit c >>= records_at limit k

-- a whole schema: at least the key, and every record that begins in it
unfoldable pub schema_at : ℕ → List ℕ → Got Counts
schema_at limit s = pick (eqb (length s) 0) (bad BadRecord 0) (records_at limit ((length s + 15) / 16) none s 0 (length s))

-- where names are not read, every place passes: two 32-bit numbers sum to less than this
abbrev pub anywhere : ℕ
anywhere = 8589934592

-- what checking a schema answers
unfoldable pub schema_of : ℕ → List ℕ → Outcome Counts
schema_of limit s = pick (ltb 1073741824 (length s)) (refused OverLimit Schema 0) (within Schema (schema_at limit s))
