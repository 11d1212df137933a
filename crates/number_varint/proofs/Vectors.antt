-- The four varints of document 01, as one statement: each is the shortest form of its number, and is read as that number. Assumes nothing.
use mathlib.Core.Path.{◌≡◌, refl}
use mathlib.Core.List.{List, [], ◌∷◌}
use Prim.Native.Nat.{ℕ, ◌-◌, ◌^◌}
use lib.ListN.{length}
use Rattle.common.specs.Choose.{pick, bind}
use Rattle.common.specs.Got.{got}
use Rattle.number_fixed.specs.BigEndian.{big_endian, bytes_of}
use Rattle.number_varint.specs.Varints.{leading, low, varint_at, form, extra, shortest}

-- the shortest form of x is bs, and bs is read as x
abbrev pub Spells : ℕ → List ℕ → Type 0
Spells x bs = (shortest x ≡ bs) × (varint_at bs 0 (length bs) ≡ got x (length bs))

pub vectors : Spells 127 (0x7F ∷ [])
    × Spells 128 (0x80 ∷ 0x80 ∷ [])
    × Spells (2 ^ 56) (0xFF ∷ 0x01 ∷ 0 ∷ 0 ∷ 0 ∷ 0 ∷ 0 ∷ 0 ∷ 0 ∷ [])
    × Spells (2 ^ 64 - 1) (0xFF ∷ 0xFF ∷ 0xFF ∷ 0xFF ∷ 0xFF ∷ 0xFF ∷ 0xFF ∷ 0xFF ∷ 0xFF ∷ [])
unfolding shortest form extra bytes_of varint_at big_endian leading low pick bind
vectors = ((refl, refl), (refl, refl), (refl, refl), (refl, refl))
