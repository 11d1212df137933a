-- What a call over Data tests first: the slices lent, the bases, the schema. Assumes nothing.
use Rattle.std.specs.Prelude.{ℕ, ◌+◌, ◌*◌, ◌≤◌, Bool, true, List, ltb, length}
use Rattle.common.specs.Choose.{pick}
use Rattle.common.specs.Refusals.{Outcome, taken, refused}
use Rattle.common.specs.declared.refusal.Fault.TheVariants.{OverLimit, OutOfRange}
use Rattle.common.specs.declared.refusal.Slice.TheVariants.{Data, Schema, Output, Bases as bases-slice}
use Rattle.common.specs.declared.times.Bases.{Bases}
use Rattle.schema_check.specs.Records.{schema_of, anywhere}
use Rattle.schema_check.specs.declared.records.Counts.{Counts}

-- bases handed over that are out of range: the local deletion time and the TTL
unfoldable pub bad_bases : Bases → Bool
bad_bases b = pick (ltb 2147483647 b.local) true (ltb 2147483647 b.ttl)

-- what follows an outcome
unfoldable pub after : {A B : Type 0} → Outcome A → (A → Outcome B) → Outcome B
after (taken a) f = f a
after (refused f z p) g = refused f z p

-- "Every call tests 1 first, then 5 for bases": the columns of the schema c, where Data is s, and a buffer of room bytes is lent (0 where
-- none is)
unfoldable pub table_at : List ℕ → Bases → List ℕ → ℕ → Outcome Counts
table_at c b s room =
    pick (ltb 1073741824 (length c)) (refused OverLimit Schema 0)
    (pick (ltb 1073741824 (length s)) (refused OverLimit Data 0)
    (pick (ltb 1073741824 room) (refused OverLimit Output 0)
    (pick (bad_bases b) (refused OutOfRange bases-slice 0)
    (schema_of anywhere c))))

-- what is known of the counts k of a schema of len bytes that is not refused
pub record Table (len : ℕ) (k : Counts) : Type 0 where
  pub filled : 16 + 16 * (k.clustering + k.statics + k.regulars) ≤ len
  pub clustering : k.clustering ≤ 32
  pub statics : k.statics ≤ 63
  pub regulars : k.regulars ≤ 63
