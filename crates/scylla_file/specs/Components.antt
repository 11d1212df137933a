-- Scylla.db: "Layout as 000; tags 1 to 4 known, at most once each, filled exactly; others are skipped by their size." Assumes nothing.
use Rattle.std.specs.Prelude.{ℕ, ◌+◌, ◌-◌, Bool, false, List, ltb, eqb, length}
use Rattle.common.specs.Choose.{pick}
use Rattle.common.specs.Got.{got, bad, on, Reader, ◌>>=◌, filled, within}
use Rattle.common.specs.Refusals.{Outcome, refused}
use Rattle.number_fixed.specs.BigEndian.{fixed_at}
use Rattle.common.specs.declared.refusal.Fault.TheVariants.{OverLimit, Repeated}
use Rattle.common.specs.declared.refusal.Slice.TheVariants.{Scylla}
use Rattle.scylla_sharding.specs.Regions.{length_at, times, passed}
use Rattle.scylla_sharding.specs.Ranges.{sharding_at}
use Rattle.scylla_file.specs.Bodies.{features_at, attributes_at, uuid, run_at}
use Rattle.scylla_file.specs.declared.body.Uuid.{Uuid}
use Rattle.scylla_file.specs.declared.component.Place.{Place}
use Rattle.scylla_file.specs.declared.component.Components.{Components}

abbrev pub place : ℕ → ℕ → Place
place offset length = record { offset = offset; length = length }

abbrev pub components : ℕ → Uuid → Place → Place → Place → Place → Components
components bits uuid sharding features attributes run =
    record { bits = bits; uuid = uuid; sharding = sharding; features = features; attributes = attributes; run = run }

-- "zeros if absent"
abbrev pub absent : Components
absent = components 0 (uuid 0 0) (place 0 0) (place 0 0) (place 0 0) (place 0 0)

-- whether a body of the tag t was found: no body begins at 0, and tags other than 1 to 4 may repeat
unfoldable pub is_seen : Components → ℕ → Bool
is_seen c t =
    pick (eqb t 1) (ltb 0 c.sharding.offset)
    (pick (eqb t 2) (ltb 0 c.features.offset)
    (pick (eqb t 3) (ltb 0 c.attributes.offset)
    (pick (eqb t 4) (ltb 0 c.run.offset) false)))

-- "tag = be32", "at most once each": 9 at the second
unfoldable pub tag_at : Components → Reader ℕ
tag_at c s at end = on (fixed_at 4 s at end) (λ t n. pick (is_seen c t) (bad Repeated at) (got t n))

-- c with one component more, whose body stands from at up to end: what it says, and its place
unfoldable pub with_sharding : Components → Reader Components
with_sharding c s at end =
    on (passed (sharding_at s at end)) (λ u n. got (components c.bits c.uuid (place at (end - at)) c.features c.attributes c.run) n)

unfoldable pub with_features : Components → Reader Components
with_features c s at end =
    on (features_at s at end) (λ x n. got (components x c.uuid c.sharding (place at (end - at)) c.attributes c.run) n)

unfoldable pub with_attributes : Components → Reader Components
with_attributes c s at end =
    on (attributes_at s at end) (λ u n. got (components c.bits c.uuid c.sharding c.features (place at (end - at)) c.run) n)

unfoldable pub with_run : Components → Reader Components
with_run c s at end =
    on (run_at s at end) (λ u n. got (components c.bits u c.sharding c.features c.attributes (place at (end - at))) n)

-- the body under the tag t: "others are skipped by their size"
unfoldable pub body_at : ℕ → Components → Reader Components
body_at t c s at end =
    pick (eqb t 1) (with_sharding c s at end)
    (pick (eqb t 2) (with_features c s at end)
    (pick (eqb t 3) (with_attributes c s at end)
    (pick (eqb t 4) (with_run c s at end)
    (got c end))))

-- "(tag serialized_size subcomponent)", "serialized_size = be32"; c is what the components before it gave
unfoldable pub component_at : Components → Reader Components
component_at c s at end = on (tag_at c s at end) (λ t n. on (length_at 4 s n end) (λ z m. body_at t c s m (m + z)))

-- "scylla_db = subcomponent_count (tag serialized_size subcomponent)*", "subcomponent_count = be32", and nothing after
unfoldable pub file_at : Reader Components
file_at = fixed_at 4 >>= (λ k. times component_at k absent >>= (λ c. filled c))

-- what reading the file gives: "The answer gives feature bits, run identifier and each component's place"
unfoldable pub scylla_of : List ℕ → Outcome Components
scylla_of s = pick (ltb 1073741824 (length s)) (refused OverLimit Scylla 0) (within Scylla (file_at s 0 (length s)))
