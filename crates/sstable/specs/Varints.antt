-- The varint calls of the C interface. Assumes nothing.
use Rattle.std.specs.Prelude.{ℕ, ◌≡◌, List, [], ◌∷◌, ltb, length}
use Rattle.common.specs.Choose.{pick}
use Rattle.common.specs.Got.{Got, got, bad}
use Rattle.common.specs.Refusals.{Outcome, taken, refused}
use Rattle.common.specs.Store.{splice}
use Rattle.number_varint.specs.Varints.{varint_at, shortest}
use Rattle.common.specs.declared.refusal.Fault.TheVariants.{OverLimit, NoRoom}
use Rattle.common.specs.declared.refusal.Slice.{Slice}
use Rattle.common.specs.declared.refusal.Slice.TheVariants.{Data, Output}
use Rattle.sstable_words.specs.Words.{words}

-- a number that was read, and the place after it; or the refusal in the slice z
unfoldable pub number_in : Slice → Got ℕ → Outcome (List ℕ)
number_in z (got v n) = taken (v ∷ n ∷ [])
number_in z (bad f p) = refused f z p

-- the varint at place at of Data, before end
unfoldable pub varint_read : List ℕ → ℕ → ℕ → List ℕ
varint_read s at end =
    words (0 ∷ 0 ∷ [])
    (pick (ltb 1073741824 (length s)) (refused OverLimit Data 0)
    (number_in Data (varint_at s at end)))

-- the shortest varint of x, stored at the start of d: its length
unfoldable pub varint_put : List ℕ → ℕ → Outcome (List ℕ)
varint_put d x =
    pick (ltb 1073741824 (length d)) (refused OverLimit Output 0)
    (pick (ltb (length d) (length (shortest x))) (refused NoRoom Output (length (shortest x)))
    (taken (length (shortest x) ∷ [])))

-- what d then holds: a refusal changes nothing
unfoldable pub varint_stored : List ℕ → ℕ → List ℕ
varint_stored d x =
    pick (ltb 1073741824 (length d)) d
    (pick (ltb (length d) (length (shortest x))) d
    (splice d 0 (shortest x)))

-- d becomes d', and a are the answer's words
pub record VarintPut (d d' : List ℕ) (x : ℕ) (a : List ℕ) : Type 0 where
  pub answer : a ≡ words (0 ∷ []) (varint_put d x)
  pub buffer : d' ≡ varint_stored d x
