-- Document 01's file: the cell at 24, with flags that are refused, a value that is cut, and times out of range. Assumes nothing.
use mathlib.Core.Path.{◌≡◌, refl}
use mathlib.Core.List.{List, [], ◌∷◌}
use Prim.Native.Nat.{ℕ}
use Rattle.common.specs.Choose.{pick, bind}
use Rattle.common.specs.Got.{got, bad, on}
use Rattle.number_fixed.specs.BigEndian.{big_endian}
use Rattle.number_varint.specs.Varints.{leading, low, varint_at}
use Rattle.common.specs.declared.refusal.Fault.TheVariants.{PastEnd, BadFlags, OutOfRange}
use Rattle.data_field.specs.Fields.{span, byte_at, in_at, deletion_at, deletion, variable_at, value_at, timestamp_at}
use Rattle.data_cell.specs.Cells.{cell, bad_flags, flags_at, last_at, expiring_at, content_at, timed_at, cell_at}
use Rattle.common.specs.declared.times.Bases.{Bases}
use Rattle.data_cell.specs.declared.cells.Times.{Times}

abbrev base : Bases
base = record { timestamp = 9224814916854775808; local = 1442880000; ttl = 0 }

-- the row's times: timestamp 1442880000000005; none; and with an expiry
abbrev row : Times
row = record { timed = 1; timestamp = 9224814916854775813; expires = 0; local = 0; ttl = 0 }

abbrev none : Times
none = record { timed = 0; timestamp = 0; expires = 0; local = 0; ttl = 0 }

abbrev expiring : Times
expiring = record { timed = 1; timestamp = 9; expires = 1; local = 8; ttl = 7 }

-- the cell's bytes with flags f
abbrev file : ℕ → List ℕ
file f = f ∷ 0 ∷ 0 ∷ 0 ∷ 0x2A ∷ 1 ∷ []

pub vectors : (cell_at base row 4 (file 8) 0 5 ≡ got (cell 0 9224814916854775813 0 0 (span 1 4)) 5)
    × (cell_at base row 4 (file 8) 0 4 ≡ bad PastEnd 1)  -- body size 06
    × (cell_at base none 4 (file 8) 0 5 ≡ bad BadFlags 0)  -- 08 without row timestamp
    × (cell_at base row 4 (file 0x20) 0 5 ≡ bad BadFlags 0)  -- bits above 1F
    × (cell_at base row 4 (file 7) 0 5 ≡ bad BadFlags 0)  -- 01 with 02
    × (cell_at base row 4 (file 9) 0 5 ≡ bad BadFlags 0)  -- 01 without 04
    × (cell_at base row 4 (file 0x12) 0 5 ≡ bad BadFlags 0)  -- 10 without row TTL
    × (cell_at base expiring 4 (file 0x10) 0 5 ≡ bad BadFlags 0)  -- 10 on a cell not expiring
    × (cell_at base expiring 255 (file 0x1A) 0 5 ≡ got (cell 1 9 8 7 (span 0 0)) 2)  -- a variable width: length 0 is an empty value
    × (cell_at base expiring 4 (file 0x0D) 0 5 ≡ got (cell 2 9 1442880000 0 (span 0 0)) 2)  -- a tombstone
    × (cell_at base expiring 4 (file 0x0A) 0 5 ≡ bad OutOfRange 2)  -- TTL 0
    × (value_at 255 (5 ∷ 1 ∷ 2 ∷ []) 0 3 ≡ bad PastEnd 0)  -- a length that announces more than there is
    × (deletion_at base (1 ∷ 2 ∷ []) 0 2 ≡ got (deletion 1 9224814916854775809 1442880002) 2)
    × (timestamp_at (record { timestamp = 0; local = 0; ttl = 0 }) (0 ∷ []) 0 1 ≡ bad OutOfRange 0)  -- -2^63
unfolding pick bind varint_at big_endian leading low on byte_at in_at deletion_at variable_at value_at bad_flags flags_at last_at expiring_at content_at timed_at cell_at
vectors = (refl, refl, refl, refl, refl, refl, refl, refl, refl, refl, refl, refl, refl, refl)
