-- The examples of the decisions for the contents and entry 0, as one statement. Assumes nothing.
use mathlib.Core.Path.{◌≡◌, refl}
use mathlib.Core.List.{List, [], ◌∷◌, ◌++◌}
use Prim.Native.Nat.{ℕ}
use lib.ListN.{length}
use Rattle.common.specs.Choose.{pick, bind}
use Rattle.common.specs.Got.{got, bad, on}
use Rattle.number_fixed.specs.BigEndian.{big_endian, fixed_at}
use Rattle.common.specs.declared.refusal.Fault.{Fault}
use Rattle.common.specs.declared.refusal.Fault.TheVariants.{PastEnd, OutOfRange, NotCarried, TooMany, Repeated}
use Rattle.stats_contents.specs.Contents.{offset_of, with_entry, used, entry_type_at, offset_at, pairs_at, count_at, present, contents_at, nearer, end_of}
use Rattle.stats_contents.specs.declared.contents.Contents.{Contents}

-- a 32-bit number whose upper bytes are all b
abbrev word : ℕ → ℕ → List ℕ
word b x = b ∷ b ∷ b ∷ x ∷ []

abbrev Refuses : List ℕ → Fault → ℕ → Type 0
Refuses s f p = contents_at s 0 (length s) ≡ bad f p

abbrev both : Contents
both = record { validation = 20; compaction = 0; statistics = 0; header = 30 }

pub vectors :
    Refuses (0x80 ∷ 0 ∷ 0 ∷ 0 ∷ []) OutOfRange 0
    × Refuses (word 0 5) TooMany 0
    × Refuses (word 0 0) NotCarried 0
    × Refuses (word 0 1) PastEnd 4
    × Refuses (word 0 2 ++ word 0 0 ++ word 0xFF 0xFF) OutOfRange 8
    × Refuses (word 0 2 ++ word 0 0 ++ word 0 0x0C) OutOfRange 8
    × Refuses (word 0 2 ++ word 0 0 ++ word 0 0x14) PastEnd 8
    × Refuses (word 0 2 ++ word 0 0 ++ word 0 0x14 ++ word 0 3 ++ word 0 0x14) Repeated 16
    × Refuses (word 0 2 ++ word 0 0 ++ word 0 0x14 ++ word 0 0 ++ word 0 0x14) Repeated 12
    × Refuses (word 0 1 ++ word 0xFF 0xFF ++ word 0 0x0C) NotCarried 4
    × (contents_at (word 0 2 ++ word 0 0 ++ word 0 0x14 ++ word 0 3 ++ word 0 0x1E ++ word 0 0 ++ word 0 0 ++ word 0 0) 0 32 ≡ got both 20)
    × (end_of 20 both 50 ≡ 30)
    × (end_of 30 both 50 ≡ 50)
unfolding contents_at count_at pairs_at entry_type_at offset_at offset_of with_entry used present nearer end_of fixed_at big_endian on pick bind
vectors = (refl, refl, refl, refl, refl, refl, refl, refl, refl, refl, refl, refl, refl)
