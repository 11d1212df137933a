-- What a call of the writer answers, and what its buffer holds then. Assumes nothing.
use Rattle.std.specs.Prelude.{ℕ, ◌≡◌, List, length, Result}
use Rattle.common.specs.Refusals.{Outcome, taken, refused, outcome}
use Rattle.common.specs.Store.{splice}
use Rattle.common.specs.declared.refusal.Refusal.{Refusal}
use Rattle.call_check.specs.Tables.{after}
use Rattle.write_accept.specs.Writes.{fitting}

-- the length of Data that is written
unfoldable pub length_of : Outcome (List ℕ) → Outcome ℕ
length_of (taken w) = taken (length w)
length_of (refused f z p) = refused f z p

-- Data where it fits into room bytes
unfoldable pub fitted : Outcome (List ℕ) → ℕ → Outcome (List ℕ)
fitted x room = after x (λ w. fitting room w)

-- what the buffer d holds then: Data from its first byte on, or what it held
unfoldable pub kept : Outcome (List ℕ) → List ℕ → List ℕ
kept (taken w) d = splice d 0 w
kept (refused f z p) d = d

-- the Data x is stored in d, which becomes d', and r is its length; or r tells why not, and d' is d
pub record Writes (x : Outcome (List ℕ)) (d d' : List ℕ) (r : Result ℕ Refusal) : Type 0 where
  pub answer : outcome r ≡ length_of x
  pub buffer : d' ≡ kept x d
