-- The words of an answer of the C interface: number (0 where the call was taken), slice, place, and then what the call gives. Assumes nothing.
use Rattle.std.specs.Prelude.{ℕ, List, ◌∷◌}
use Rattle.common.specs.Refusals.{fault_number, slice_number, Outcome, taken, refused}

-- zs are the zeros that stand behind a refusal
unfoldable pub words : List ℕ → Outcome (List ℕ) → List ℕ
words zs (taken ws) = 0 ∷ 0 ∷ 0 ∷ ws
words zs (refused f z p) = fault_number f ∷ slice_number z ∷ p ∷ zs

-- what a call gives, as words
unfoldable pub mapped : {A : Type 0} → (A → List ℕ) → Outcome A → Outcome (List ℕ)
mapped f (taken a) = taken (f a)
mapped f (refused x z p) = refused x z p
