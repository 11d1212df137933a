-- The listing of Data: whether it is accepted, and then all its records. Assumes nothing.
use Rattle.common.specs.declared.refusal.Refusal.{Refusal}
use Rattle.std.specs.Prelude.{ℕ, ◌+◌, ◌*◌, ◌≤◌, ◌≡◌, List, [], ltb, length, Result}
use Rattle.common.specs.Choose.{pick}
use Rattle.common.specs.Refusals.{Outcome, taken, refused, outcome}
use Rattle.common.specs.Store.{splice}
use Rattle.common.specs.declared.refusal.Fault.TheVariants.{NoRoom}
use Rattle.common.specs.declared.refusal.Slice.TheVariants.{Output}
use Rattle.common.specs.declared.times.Bases.{Bases}
use Rattle.call_check.specs.Tables.{after, table_at}
use Rattle.data_items.specs.declared.Item.{Item}
use Rattle.data_contents.specs.Contents.{contents_of}
use Rattle.list_call.specs.Records.{records_of}

-- the items of Data in a table of the schema c and the bases b, where a buffer of room bytes is lent
unfoldable pub list_at : List ℕ → Bases → List ℕ → ℕ → Outcome (List Item)
list_at c b s room = after (table_at c b s room) (λ k. contents_of c k b s)

-- how many there are, n before them
unfoldable pub counted : ℕ → Outcome (List Item) → Outcome ℕ
counted n (taken l) = taken (n + length l)
counted n (refused f z p) = refused f z p

-- what is answered where the buffer has room bytes: 13 with the length needed
unfoldable pub fitted : Outcome ℕ → ℕ → Outcome ℕ
fitted (taken n) room = pick (ltb room (64 * n)) (refused NoRoom Output (64 * n)) (taken n)
fitted (refused f z p) room = refused f z p

-- the records of what was listed
unfoldable pub record_bytes : Outcome (List Item) → List ℕ
record_bytes (taken l) = records_of l
record_bytes (refused f z p) = []

-- what the buffer d holds then, where the answer is a: the records w, or what it held
unfoldable pub kept : Outcome ℕ → List ℕ → List ℕ → List ℕ
kept (taken n) w d = splice d 0 w
kept (refused f z p) w d = d

-- the items x are not refused, and their records fit into room bytes
pub record Ready (x : Outcome (List Item)) (room : ℕ) : Type 0 where
  pub items : List Item
  pub are : x ≡ taken items
  pub fits : 64 * length items ≤ room

-- the listing x is stored in d, which becomes d', and r is the answer; or r tells why not, and d' is d
pub record Lists (x : Outcome (List Item)) (d d' : List ℕ) (r : Result ℕ Refusal) : Type 0 where
  pub answer : outcome r ≡ fitted (counted 0 x) (length d)
  pub buffer : d' ≡ kept (fitted (counted 0 x) (length d)) (record_bytes x) d
