-- Document 01's file: the header of its partition, with deletions that are refused. Assumes nothing.
use mathlib.Core.Path.{◌≡◌, refl}
use mathlib.Core.List.{List, [], ◌∷◌}
use Prim.Native.Nat.{ℕ}
use Rattle.common.specs.Choose.{pick, bind}
use Rattle.common.specs.Got.{got, bad, on}
use Rattle.number_fixed.specs.BigEndian.{big_endian, fixed_at}
use Rattle.common.specs.declared.refusal.Fault.TheVariants.{PastEnd, OutOfRange}
use Rattle.data_field.specs.Fields.{span, deletion, live}
use Rattle.common.specs.Times.{biased}
use Rattle.data_partition.specs.Partitions.{key_of, deleted_by, deleted_at, partition_at}

-- the header with a key length of l, a local time that begins with x and ends with y, a mark that begins with t
abbrev file : ℕ → ℕ → ℕ → ℕ → List ℕ
file l x y t = 0 ∷ l ∷ 0x6B ∷ x ∷ 0xFF ∷ 0xFF ∷ y ∷ t ∷ 0 ∷ 0 ∷ 0 ∷ 0 ∷ 0 ∷ 0 ∷ 0 ∷ []

pub vectors : (partition_at (file 1 0x7F 0xFF 0x80) 0 15 ≡ got (record { key = span 2 1; deletion = live }) 15)
    × (partition_at (file 1 0x7F 0xFE 0x00) 0 15 ≡ got (record { key = span 2 1; deletion = deletion 1 9223372036854775808 2147483646 }) 15)
    × (partition_at (file 1 0xFF 0xFF 0x80) 0 7 ≡ bad OutOfRange 3)  -- negative, before the mark is read
    × (partition_at (file 1 0x7F 0xFF 0x80) 0 14 ≡ bad PastEnd 7)  -- the mark is cut
    × (partition_at (file 1 0x7F 0xFF 0x81) 0 15 ≡ bad OutOfRange 3)  -- another mark than -2^63
    × (partition_at (file 1 0x7F 0xFE 0x80) 0 15 ≡ bad OutOfRange 7)  -- another local time
    × (partition_at (file 14 0x7F 0xFF 0x80) 0 15 ≡ bad PastEnd 0)  -- the key passes the end
    × (partition_at (0 ∷ 0 ∷ 0x7F ∷ 0xFF ∷ 0xFF ∷ 0xFF ∷ 0x80 ∷ 0 ∷ 0 ∷ 0 ∷ 0 ∷ 0 ∷ 0 ∷ 0 ∷ []) 0 14 ≡ got (record { key = span 0 0; deletion = live }) 14)
    × (partition_at (0 ∷ 0 ∷ []) 1 2 ≡ bad PastEnd 1)
unfolding pick bind big_endian fixed_at on key_of biased deleted_by deleted_at partition_at
vectors = (refl, refl, refl, refl, refl, refl, refl, refl, refl)
