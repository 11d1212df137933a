-- Document 01's file: the clustering of its row at 16 and the sizes at 21, with headers and sizes that are refused. Assumes nothing.
use mathlib.Core.Path.{◌≡◌, refl}
use mathlib.Core.List.{List, [], ◌∷◌}
use Prim.Native.Nat.{ℕ}
use Rattle.common.specs.Choose.{pick, bind}
use Rattle.common.specs.Got.{got, bad, on}
use Rattle.number_fixed.specs.BigEndian.{big_endian}
use Rattle.number_varint.specs.Varints.{leading, low, varint_at}
use Rattle.common.specs.declared.refusal.Fault.TheVariants.{PastEnd, BadFlags}
use Rattle.data_field.specs.Fields.{span, variable_at, value_at}
use Rattle.data_clustering.specs.Prefixes.{bad_header, header_at, clustering_at, values_at, skipped, prefix_at, widths_at}
use Rattle.data_clustering.specs.Sizes.{sizes_at}

-- the bytes from 16 on, with the header h and the body size z
abbrev file : ℕ → ℕ → List ℕ
file h z = h ∷ 0 ∷ 0 ∷ 0 ∷ 7 ∷ z ∷ 0x0F ∷ 5 ∷ 8 ∷ 0 ∷ 0 ∷ 0 ∷ 0x2A ∷ 1 ∷ []

-- the records of a key and of an Int32 column
abbrev schema : List ℕ
schema =
    0 ∷ 1 ∷ 0 ∷ 255 ∷ 0 ∷ 0 ∷ 0 ∷ 0 ∷ 0 ∷ 0 ∷ 0 ∷ 0 ∷ 0 ∷ 0 ∷ 0 ∷ 0 ∷ 1 ∷ 18 ∷ 0 ∷ 4 ∷ 0 ∷ 0 ∷ 0 ∷ 0 ∷ 0 ∷ 0 ∷ 0 ∷ 0 ∷ 0 ∷ 0 ∷ 0 ∷ 0 ∷ []

pub vectors : (widths_at schema 16 1 ≡ 4 ∷ [])
    × (prefix_at (4 ∷ []) (file 0 7) 0 14 ≡ got (record { header = 0; values = 1 }) 5)
    × (values_at (4 ∷ []) 0 (file 0 7) 1 14 ≡ got (span 1 4 ∷ []) 5)
    × (prefix_at (4 ∷ []) (file 1 7) 0 14 ≡ got (record { header = 1; values = 1 }) 1)  -- an empty value
    × (prefix_at (4 ∷ []) (file 2 7) 0 14 ≡ bad BadFlags 0)  -- null
    × (prefix_at (4 ∷ []) (file 4 7) 0 14 ≡ bad BadFlags 0)  -- a bit above the columns
    × (prefix_at (4 ∷ []) (file 0 7) 0 4 ≡ bad PastEnd 1)
    × (prefix_at [] (file 0 7) 0 14 ≡ got (record { header = 0; values = 0 }) 0)
    × (sizes_at (file 0 7) 5 14 ≡ got 13 7)  -- the body ends at 29
    × (sizes_at (file 0 8) 5 14 ≡ got 14 7)
    × (sizes_at (file 0 9) 5 14 ≡ bad PastEnd 5)
    × (sizes_at (file 0 0) 5 14 ≡ bad PastEnd 6)  -- the previous size stands in the body
unfolding pick bind varint_at big_endian leading low on variable_at value_at bad_header header_at clustering_at values_at skipped prefix_at widths_at sizes_at
vectors = (refl, refl, refl, refl, refl, refl, refl, refl, refl, refl, refl, refl)
