-- Short files at the edges of the rules, as one statement: what reading each gives. Assumes nothing.
use mathlib.Core.Path.{◌≡◌, refl}
use mathlib.Core.List.{List, [], ◌∷◌, ◌++◌}
use Prim.Native.Nat.{ℕ}
use Rattle.common.specs.Choose.{pick, bind}
use Rattle.common.specs.Got.{on, within}
use Rattle.common.specs.Refusals.{taken, refused}
use Rattle.number_fixed.specs.BigEndian.{big_endian, bytes_of, fixed_at}
use Rattle.common.specs.declared.refusal.Fault.{Fault}
use Rattle.common.specs.declared.refusal.Fault.TheVariants.{PastEnd, LeftOver, BadFlags, NotCarried, Repeated}
use Rattle.common.specs.declared.refusal.Slice.TheVariants.{Scylla}
use Rattle.scylla_sharding.specs.Regions.{length_at, times, passed}
use Rattle.common.specs.Times.{biased}
use Rattle.scylla_sharding.specs.Bounds.{flag_at, token_at, bound_at, both_inclusive, is_range, is_next}
use Rattle.scylla_sharding.specs.Ranges.{left_at, right_at, ranges_after, ranges_at, sharding_at}
use Rattle.scylla_file.specs.Bodies.{uuid, features_at, string_at, attribute_at, attributes_at, run_at}
use Rattle.scylla_file.specs.Components.{place, components, absent, is_seen, tag_at, with_sharding, with_features, with_attributes, with_run, body_at, component_at, file_at, scylla_of}
use Rattle.scylla_file.specs.declared.component.Components.{Components}

-- the file s is refused with the fault f at the place p
abbrev Refuses : List ℕ → Fault → ℕ → Type 0
Refuses s f p = scylla_of s ≡ refused f Scylla p

-- the file s is taken, with what c says
abbrev Takes : List ℕ → Components → Type 0
Takes s c = scylla_of s ≡ taken c

abbrev be32 : ℕ → List ℕ
be32 x = bytes_of x 4

abbrev be64 : ℕ → List ℕ
be64 x = bytes_of x 8

-- a component with a body of size bytes, and a file of one
abbrev component : ℕ → ℕ → List ℕ → List ℕ
component tag size body = be32 tag ++ be32 size ++ body

abbrev only : ℕ → ℕ → List ℕ → List ℕ
only tag size body = be32 1 ++ component tag size body

-- a bound of a range; a file of one range, and of two
abbrev edge : ℕ → ℕ → List ℕ
edge flag token = flag ∷ 0 ∷ 8 ∷ be64 token

abbrev one : List ℕ → List ℕ → List ℕ
one l r = only 1 26 (be32 1 ++ l ++ r)

abbrev two : List ℕ → List ℕ → List ℕ → List ℕ → List ℕ
two l r m n = only 1 48 (be32 2 ++ l ++ r ++ m ++ n)

-- what is said of ranges, and of features, alone in a file
abbrev ranges : ℕ → Components
ranges size = components 0 (uuid 0 0) (place 12 size) (place 0 0) (place 0 0) (place 0 0)

abbrev features : ℕ → Components
features x = components x (uuid 0 0) (place 0 0) (place 12 8) (place 0 0) (place 0 0)

pub vectors : Refuses [] PastEnd 0
    × Refuses (be32 0xFFFFFFFF) PastEnd 4
    × Takes (be32 0) absent
    × Refuses (be32 0 ++ (1 ∷ [])) LeftOver 4
    -- features
    × Takes (only 2 8 (be64 5)) (features 5)
    × Refuses (only 2 7 (bytes_of 5 7)) PastEnd 12
    × Refuses (only 2 9 (bytes_of 5 9)) LeftOver 20
    × Refuses (only 2 9 (be64 5)) PastEnd 8
    × Refuses (be32 2 ++ component 2 8 (be64 5) ++ be32 2) Repeated 20
    × Refuses (be32 2 ++ component 2 9 (bytes_of 5 9) ++ be32 2) LeftOver 20
    -- a run identifier, twice an unknown tag, and 0
    × Takes (be32 4 ++ component 9 1 (7 ∷ []) ++ component 0 0 [] ++ component 9 0 [] ++ component 4 16 (be64 1 ++ be64 2))
    (components 0 (uuid 1 2) (place 0 0) (place 0 0) (place 0 0) (place 37 16))
    × Refuses (only 4 10 (bytes_of 0 10)) PastEnd 20
    -- attributes: twice the key "k", and a length that passes the component
    × Takes (only 3 22 (be32 2 ++ be32 1 ++ (107 ∷ []) ++ be32 0 ++ be32 1 ++ (107 ∷ []) ++ be32 0))
    (components 0 (uuid 0 0) (place 0 0) (place 0 0) (place 12 22) (place 0 0))
    × Refuses (only 3 9 (be32 1 ++ be32 2 ++ (107 ∷ []))) PastEnd 16
    -- ranges: flags, token lengths
    × Refuses (one (edge 2 1) (edge 0 2)) BadFlags 16
    × Refuses (only 1 15 (be32 1 ++ (0 ∷ 0 ∷ 9 ∷ be64 1))) PastEnd 17
    × Refuses (only 1 16 (be32 1 ++ (0 ∷ 0 ∷ 9 ∷ be64 1) ++ (1 ∷ []))) NotCarried 17
    × Refuses (only 1 14 (be32 1 ++ (0 ∷ 0 ∷ 7 ∷ bytes_of 1 7))) NotCarried 17
    -- ranges: order in a range, -1 before 0
    × Refuses (one (edge 0 1) (edge 0 0)) Repeated 27
    × Refuses (only 1 25 (be32 1 ++ edge 0 1 ++ (0 ∷ 0 ∷ 7 ∷ bytes_of 0 7))) NotCarried 28
    × Takes (one (edge 1 0xFFFFFFFFFFFFFFFF) (edge 1 0)) (ranges 26)
    × Takes (one (edge 0 5) (edge 0 5)) (ranges 26)
    × Refuses (one (edge 1 5) (edge 0 5)) Repeated 27
    × Refuses (one (edge 0 5) (edge 1 5)) Repeated 27
    -- ranges: order of ranges, the least token first
    × Takes (two (edge 0 0x8000000000000000) (edge 0 0x8000000000000000) (edge 1 0x8000000000000000) (edge 0 0)) (ranges 48)
    × Takes (two (edge 0 1) (edge 1 2) (edge 0 2) (edge 0 3)) (ranges 48)
    × Refuses (two (edge 0 1) (edge 0 2) (edge 0 2) (edge 0 3)) Repeated 38
    × Refuses (two (edge 0 1) (edge 0 2) (edge 1 1) (edge 0 3)) Repeated 38
    × Refuses (only 1 27 (be32 1 ++ edge 0 1 ++ edge 0 2 ++ (0 ∷ []))) LeftOver 38
unfolding scylla_of file_at component_at body_at with_sharding with_features with_attributes with_run tag_at is_seen run_at attributes_at attribute_at times string_at features_at sharding_at ranges_at ranges_after right_at left_at is_next is_range both_inclusive bound_at token_at flag_at biased length_at passed fixed_at big_endian bytes_of pick bind on within
vectors = (refl, refl, refl, refl, refl, refl, refl, refl, refl, refl, refl, refl, refl, refl, refl, refl, refl, refl, refl, refl, refl, refl, refl, refl, refl, refl, refl, refl, refl)
