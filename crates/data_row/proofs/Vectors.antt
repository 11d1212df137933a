-- Document 01's file: its row at 15, up to the cell at 24; flags, extended bytes, sizes and masks that are refused. Assumes nothing.
use mathlib.Core.Path.{◌≡◌, refl}
use mathlib.Core.List.{List, [], ◌∷◌}
use Prim.Native.Nat.{ℕ}
use Rattle.common.specs.Choose.{pick, bind}
use Rattle.common.specs.Got.{got, bad, on}
use Rattle.number_fixed.specs.BigEndian.{big_endian}
use Rattle.number_varint.specs.Varints.{leading, low, varint_at}
use Rattle.common.specs.declared.refusal.Fault.TheVariants.{PastEnd, BadFlags, OutOfTurn, NotCarried}
use Rattle.data_field.specs.Fields.{byte_at, in_at, deletion_at, variable_at, value_at, deletion, live}
use Rattle.common.specs.declared.times.Bases.{Bases}
use Rattle.data_clustering.specs.Prefixes.{bad_header, header_at, clustering_at, values_at, skipped, prefix_at}
use Rattle.data_clustering.specs.Sizes.{sizes_at}
use Rattle.data_row.specs.Flags.{bad_row_flags, row_flags_at, extended_of, extended_at}
use Rattle.data_turns.specs.Turns.{may_stand}
use Rattle.data_row.specs.Bodies.{times, body, expiry_at, liveness_at, row_deletion_at, columns, present_at, content_at, body_at}
use Rattle.data_row.specs.Rows.{row, rest_at, row_at}

abbrev base : Bases
base = record { timestamp = 9224814916854775808; local = 1442880000; ttl = 0 }

-- the bytes from 15 on, with the flags f and the body size z
abbrev file : ℕ → ℕ → List ℕ
file f z = f ∷ 0 ∷ 0 ∷ 0 ∷ 0 ∷ 7 ∷ z ∷ 0x0F ∷ 5 ∷ 8 ∷ 0 ∷ 0 ∷ 0 ∷ 0x2A ∷ 1 ∷ []

-- rows of a table without columns but the key, or with one static column: flags f, then x and y, and a body of three bytes
abbrev other : ℕ → ℕ → ℕ → List ℕ
other f x y = f ∷ x ∷ y ∷ 0 ∷ 1 ∷ 1 ∷ []

pub vectors : (row_at base (4 ∷ []) 0 1 1 (file 0x24 7) 0 15
    ≡ got (row 0 0x24 0 (record { header = 0; values = 2 }) (body 14 (times 1 9224814916854775813 0 0 0) live 1)) 9)
    × (row_at base (4 ∷ []) 0 1 1 (file 0x24 9) 0 15 ≡ bad PastEnd 6)  -- a body past the end: at the size
    × (row_at base (4 ∷ []) 0 1 1 (file 0x24 1) 0 15 ≡ bad PastEnd 8)  -- the timestamp is cut by the body's end
    × (row_at base (4 ∷ []) 0 1 1 (file 0x04 7) 0 15 ≡ bad BadFlags 9)  -- a mask of 8, where there is one column
    × (row_at base (4 ∷ []) 0 1 1 (file 0x28 7) 0 15 ≡ bad BadFlags 0)  -- 08 without 04
    × (row_at base (4 ∷ []) 0 1 1 (file 0x25 7) 0 15 ≡ bad BadFlags 0)  -- 01 not alone
    × (row_at base (4 ∷ []) 0 1 1 (file 0x02 7) 0 15 ≡ bad BadFlags 0)
    × (row_at base [] 0 0 0 (other 0xC0 2 0) 0 6 ≡ bad BadFlags 0)  -- before the extended byte
    × (row_at base [] 0 0 1 (other 0xA0 1 1) 0 6 ≡ bad OutOfTurn 1)  -- no static columns
    × (row_at base [] 1 0 0 (other 0xA0 1 1) 0 6 ≡ bad OutOfTurn 1)  -- not right behind the partition's header
    × (row_at base [] 1 0 1 (other 0xA0 1 1) 0 6 ≡ got (row 0 0xA0 1 (record { header = 0; values = 2 }) (body 4 (times 0 0 0 0 0) live 1)) 4)
    × (row_at base [] 1 0 1 (other 0xA0 2 1) 0 6 ≡ bad NotCarried 1)
    × (row_at base [] 1 0 1 (other 0xA0 0x80 1) 0 6 ≡ bad NotCarried 1)
    × (row_at base [] 1 0 1 (other 0xA0 0x81 1) 0 6 ≡ bad BadFlags 1)
    × (row_at base [] 0 0 0 (other 0x80 0 2) 0 6 ≡ bad BadFlags 4)  -- a mask of 1 without columns
    × (row_at base [] 0 0 0 (other 0x00 2 0) 0 6 ≡ got (row 0 0 0 (record { header = 0; values = 1 }) (body 4 (times 0 0 0 0 0) live 0)) 4)
    × (row_at base [] 0 0 0 (other 0x30 4 0) 0 6 ≡ got (row 0 0x30 0 (record { header = 0; values = 1 }) (body 6 (times 0 0 0 0 0) (deletion 1 9224814916854775808 1442880001) 0)) 5)
unfolding pick bind varint_at big_endian leading low on byte_at in_at deletion_at variable_at value_at bad_header header_at clustering_at values_at skipped prefix_at sizes_at bad_row_flags row_flags_at may_stand extended_of extended_at expiry_at liveness_at row_deletion_at columns present_at content_at body_at rest_at row_at
vectors = (refl, refl, refl, refl, refl, refl, refl, refl, refl, refl, refl, refl, refl, refl, refl, refl, refl)
